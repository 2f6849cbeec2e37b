pub mod Options
pub mod OfTables
