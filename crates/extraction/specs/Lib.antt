pub mod Extraction
pub mod Engineering
pub mod Located
