pub mod MarkLaws
pub mod MannerLaws
