-- Laws of the language of coefficients, for the proofs of this crate and for the crates above it.
pub mod Steps
pub mod Beginnings
pub mod Room
pub mod Walks
