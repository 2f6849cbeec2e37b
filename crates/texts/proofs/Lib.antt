pub mod AltxtLaws
pub mod NamedLaws
pub mod TextLaws
