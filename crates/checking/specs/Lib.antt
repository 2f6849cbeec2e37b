pub mod Room
pub mod Manner
pub mod Places
