pub mod Identification
