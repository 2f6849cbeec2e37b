pub mod RowOrder
pub mod Telling
