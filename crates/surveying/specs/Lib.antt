pub mod Told
pub mod Surveys
pub mod Archive
