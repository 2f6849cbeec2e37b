pub mod Along
pub mod OffCurve
pub mod Scale
