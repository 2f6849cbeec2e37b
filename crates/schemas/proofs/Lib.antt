pub mod Meaning
pub mod ShapeLaws
pub mod PositionLaws
