pub mod Nearest
pub mod Curve
