pub mod ExtractLaws
pub mod EngineerLaws
