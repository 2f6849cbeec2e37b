pub mod WrongLaws
