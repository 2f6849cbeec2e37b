-- Laws of a polynomial's value, for the proofs of this crate and for the crates above it.
pub mod Nans
pub mod Sizes
pub mod Finite
