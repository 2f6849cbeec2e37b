pub mod ArrayLaws
pub mod SizeLaws
pub mod PartLaws
