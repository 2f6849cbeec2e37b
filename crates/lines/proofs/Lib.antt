pub mod LineLaws
pub mod ColumnLaws
pub mod ScanLaws
pub mod WalkedLaws
