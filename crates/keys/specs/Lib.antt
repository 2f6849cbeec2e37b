pub mod Ranks
pub mod Held
pub mod Says
