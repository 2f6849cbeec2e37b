pub mod HoldLaws
pub mod NameLaws
pub mod PointLaws
pub mod TableLaws
