-- With CURTX, or without it.
use Rattle.polynomial_curves.proofs.PolynomialLaws.{found_free, found_named}
use borrow.Author.Tests.{not-true, not-false}
use Rattle.polynomial_curves.proofs.find_polynomial.Goals as goal

pub returns-then-not-curtx : goal.returns-then-not-curtx
returns-then-not-curtx c = found_free _ _ (not-true _ c.if-not-curtx.true)

pub returns : goal.returns
returns c = found_named _ _ (not-false _ c.if-not-curtx.false) c.polynomial_of.ensures
