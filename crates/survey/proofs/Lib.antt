pub mod ChoiceLaws
pub mod LoadLaws
