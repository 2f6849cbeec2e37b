pub mod AnswerLaws
pub mod ImportLaws
pub mod ZeroLaws
