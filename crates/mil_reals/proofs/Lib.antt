pub mod Normal
pub mod Powers
pub mod Exact
