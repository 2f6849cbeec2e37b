pub mod Index
pub mod Loaded
