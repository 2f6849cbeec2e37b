pub mod CircleMeaning
pub mod GoodMeaning
pub mod KindMeaning
pub mod Meaning
pub mod PassLaws
pub mod Resolved
pub mod VerdictMeaning
