pub mod Stages
pub mod Scientific
pub mod Positions
