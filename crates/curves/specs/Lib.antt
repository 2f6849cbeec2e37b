pub mod Floor
pub mod Line
