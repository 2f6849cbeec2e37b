pub mod AnswerLaws
pub mod AcceptedLaws
pub mod OnceLaws
pub mod InvalidLaws
