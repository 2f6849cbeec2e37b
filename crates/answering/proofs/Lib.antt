pub mod AnsweringLaws
