pub mod BoundLaws
pub mod CaseLaws
pub mod Fitting
pub mod RowLaws
pub mod SaysLaws
pub mod HoldLaws
pub mod RankLaws
