-- Each field is its column's.
use mathlib.Core.Path.{ap, ◌∙◌}
use Rattle.rows.specs.Values.{valid_of}
use Rattle.decoding.proofs.pid_row.Goals as goal

pub returns : goal.returns
returns c = λ i. record {
  ptype = c.natural_at.ensures i;
  stype = c.natural_at-2.ensures i;
  apid = c.natural_at-3.ensures i;
  pi1 = c.natural_at-4.ensures i;
  pi2 = c.natural_at-5.ensures i;
  spid = record { 0 = c.natural_at-6.ensures i };
  valid = (c.from.ensures ∙ ap valid_of c.letter_at.ensures) i;
}
