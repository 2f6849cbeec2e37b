-- Laws of a coefficient's double, for the proofs of this crate and for the crates above it.
pub mod Tables
pub mod Scales
pub mod Exact
pub mod Nearest
