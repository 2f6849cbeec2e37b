pub mod TextLaws
pub mod KeptLaws
