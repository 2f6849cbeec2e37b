pub mod WordLaws
pub mod NumeralLaws
pub mod OperandLaws
