pub mod NumberLaws
pub mod WordLaws
pub mod NameLaws
pub mod FitLaws
pub mod ExactLaws
