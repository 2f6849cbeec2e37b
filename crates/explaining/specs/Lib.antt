pub mod Explaining
pub mod ByColumns
