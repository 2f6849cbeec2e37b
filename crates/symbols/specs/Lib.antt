pub mod Symbols
pub mod Arrays
pub mod Searches
pub mod Interning
