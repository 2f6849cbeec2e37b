pub mod Violations
pub mod Levels
pub mod Checks
