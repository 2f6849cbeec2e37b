pub mod Manners
