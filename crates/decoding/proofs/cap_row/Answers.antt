-- Each field is its column's.
use Rattle.laws.proofs.Words.{kept}
use Rattle.decoding.proofs.cap_row.Goals as goal

pub returns : goal.returns
returns c = λ i. record {
  numbr = c.curve_at.ensures i;
  xvals = kept c.integer_at.type_inv c.integer_at.ensures i;
  yvals = kept c.integer_at-2.type_inv c.integer_at-2.ensures i;
}
