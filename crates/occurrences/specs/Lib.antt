pub mod Values
pub mod Progress
pub mod Pass
