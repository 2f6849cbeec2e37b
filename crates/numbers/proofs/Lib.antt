-- Laws of the definitions of numbers, for the proofs of this crate and for the crates above it.
pub mod Spellings
pub mod Answers
pub mod Firsts
pub mod Digits
pub mod Magnitudes
pub mod Signs
