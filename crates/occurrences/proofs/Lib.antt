pub mod NumberLaws
pub mod PassLaws
pub mod WholeLaws
