-- Each field is its column's.
use Rattle.decoding.proofs.pic_row.Goals as goal

pub returns : goal.returns
returns c = λ i. record {
  ptype = c.natural_at.ensures i;
  stype = c.natural_at-2.ensures i;
  pi1 = c.identification_at.ensures i;
  pi2 = c.identification_at-2.ensures i;
  apid = c.optional_apid_at.ensures i;
}
