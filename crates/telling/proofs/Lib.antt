pub mod WordLaws
pub mod TellingLaws
