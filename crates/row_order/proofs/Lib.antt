pub mod TurnLaws
pub mod TellLaws
pub mod OnceLaws
pub mod AfterLaws
