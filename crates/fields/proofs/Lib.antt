pub mod BitLaws
pub mod PlaceLaws
pub mod FieldLaws
pub mod SignLaws
