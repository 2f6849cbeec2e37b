pub mod Curves
pub mod Points
