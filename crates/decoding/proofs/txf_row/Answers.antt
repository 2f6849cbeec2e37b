-- Each field is its column's.
use mathlib.Core.Path.{ap, ◌∙◌}
use Rattle.rows.specs.Values.{format_of}
use Rattle.decoding.proofs.txf_row.Goals as goal

pub returns : goal.returns
returns c = λ i. record {
  numbr = c.curve_at.ensures i;
  rawfmt = (c.from.ensures ∙ ap format_of c.letter_at.ensures) i;
  nalias = c.natural_at.ensures i;
}
