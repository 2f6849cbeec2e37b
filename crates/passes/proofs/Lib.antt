pub mod MarkedLaws
pub mod CountLaws
pub mod HolderLaws
pub mod GroupLaws
pub mod SoundLaws
