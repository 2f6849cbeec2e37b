-- Each field is its column's.
use mathlib.Core.Path.{ap, ◌∙◌}
use Rattle.rows.specs.Values.{limit_coding_of, limit_value_of}
use Rattle.decoding.proofs.ocf_row.Goals as goal

pub returns : goal.returns
returns c = λ i. record {
  name = c.name_at.ensures i;
  nbchck = c.natural_at.ensures i;
  nbool = c.natural_at-2.ensures i;
  inter = (c.from.ensures ∙ ap limit_value_of c.letter_at.ensures) i;
  codin = (c.from-2.ensures ∙ ap limit_coding_of c.letter_at-2.ensures) i;
}
