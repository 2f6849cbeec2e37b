pub mod LoadLaws
pub mod SpaceLaws
