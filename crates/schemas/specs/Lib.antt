pub mod Tables
pub mod Reasons
pub mod Constants
pub mod Positions
