pub mod Keyed
pub mod Bounded
