pub mod CheckLaws
pub mod ParameterLaws
