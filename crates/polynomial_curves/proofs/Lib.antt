pub mod PolynomialLaws
pub mod FiniteLaws
