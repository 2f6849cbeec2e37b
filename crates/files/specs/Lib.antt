pub mod Reads
pub mod Paths
