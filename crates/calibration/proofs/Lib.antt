pub mod WordLaws
pub mod OrderLaws
pub mod NearestLaws
pub mod NearestOf
pub mod CurveLaws
pub mod AtPoints
