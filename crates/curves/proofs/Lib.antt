pub mod IntLaws
pub mod FloorLaws
pub mod LineLaws
