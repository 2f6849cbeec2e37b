pub mod OfferedStep
