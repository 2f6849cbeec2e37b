pub mod Rows
pub mod Packets
pub mod GoodRows
pub mod Kinds
pub mod Arrays
