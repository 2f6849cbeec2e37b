pub mod DepthLaws
pub mod EndLaws
