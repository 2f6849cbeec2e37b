pub mod AlongLaws
pub mod OrderLaws
pub mod OffCurveLaws
pub mod ScaleLaws
