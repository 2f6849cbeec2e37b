pub mod CheckLaws
pub mod SeverityInLaws
