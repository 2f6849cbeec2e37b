pub mod ChainLaws
pub mod CircleLaws
