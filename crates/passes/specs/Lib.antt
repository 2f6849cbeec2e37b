pub mod Marked
pub mod Counts
pub mod Holders
pub mod Sound
pub mod Groups
pub mod Figures
