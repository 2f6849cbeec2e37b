pub mod HolderLaws
pub mod TableLaws
pub mod CallLaws
