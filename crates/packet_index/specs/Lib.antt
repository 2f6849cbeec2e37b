pub mod Index
pub mod Search
pub mod Making
