pub mod CauseLaws
pub mod AnswerLaws
