pub mod ReadingLaws
pub mod ChainLaws
pub mod ValidityLaw
pub mod ParameterRows
