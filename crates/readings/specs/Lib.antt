pub mod Readings
pub mod Chain
