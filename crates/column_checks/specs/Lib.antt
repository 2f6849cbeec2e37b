pub mod Schema
pub mod ColumnReasons
pub mod ColumnKinds
