pub mod FieldLaws
pub mod IdentifierLaws
