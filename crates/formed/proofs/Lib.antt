pub mod FormedLaws
pub mod Meaning
