-- Each field is its column's.
use Rattle.decoding.proofs.plf_row.Goals as goal

pub returns : goal.returns
returns c = λ i. record {
  name = c.name_at.ensures i;
  spid = record { 0 = c.natural_at.ensures i };
  offby = record { 0 = c.natural_at-2.ensures i };
  offbi = record { 0 = c.natural_at-3.ensures i };
  nbocc = c.natural_at-4.ensures i;
  lgocc = record { 0 = c.natural_at-5.ensures i };
}
