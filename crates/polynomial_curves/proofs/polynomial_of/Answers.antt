-- By the row that holds the curve's key, where there is one.
use Rattle.polynomial_curves.proofs.PolynomialLaws.{found_none, found_other, found_polynomial}
use Rattle.polynomial_curves.proofs.polynomial_of.Goals as goal

pub returns-then-at-eq0 : goal.returns-then-at-eq0
returns-then-at-eq0 c = found_none _ _ _ _ _ c.curve_key.ensures c.holder_of-at.ensures.0 c.if-at-eq0.true

pub returns-then-not-is_polynomial : goal.returns-then-not-is_polynomial
returns-then-not-is_polynomial c = found_other _ _ _ _ _ c.curve_key.ensures c.holder_of-at.ensures.0 c.if-at-eq0.false c.is_polynomial.ensures
    c.if-not-is_polynomial.true

pub returns : goal.returns
returns c = found_polynomial _ _ _ _ _ c.curve_key.ensures c.holder_of-at.ensures.0 c.if-at-eq0.false c.is_polynomial.ensures
    c.if-not-is_polynomial.false c.mcf_at-row.ensures
