-- By the row that holds the curve's key, where there is one.
use Rattle.curve_points.proofs.CurveLaws.{ends_none, ends_polynomial, ends_some}
use Rattle.curve_points.proofs.curve_ends.Goals as goal

pub returns-then-at-eq0 : goal.returns-then-at-eq0
returns-then-at-eq0 c = ends_none _ _ _ _ _ c.curve_key.ensures c.holder_of-at.ensures.0 c.if-at-eq0.true

pub returns-then-is_polynomial : goal.returns-then-is_polynomial
returns-then-is_polynomial c = ends_polynomial _ _ _ _ _ c.curve_key.ensures c.holder_of-at.ensures.0 c.if-at-eq0.false c.is_polynomial.ensures c.if-is_polynomial.true

pub returns : goal.returns
returns c = ends_some _ _ _ _ _ c.curve_key.ensures c.holder_of-at.ensures.0 c.if-at-eq0.false c.is_polynomial.ensures c.if-is_polynomial.false
    c.caf_at-row.ensures
