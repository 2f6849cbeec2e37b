pub mod Time
pub mod Accepted
pub mod Answer
