pub mod Kept
pub mod Found
pub mod Judging
