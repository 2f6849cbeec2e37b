-- Each field is its column's.
use mathlib.Core.Path.{ap, ◌∙◌}
use Rattle.rows.specs.Values.{format_of, off_ends_of}
use Rattle.decoding.proofs.caf_row.Goals as goal

pub returns : goal.returns
returns c = λ i. record {
  numbr = c.curve_at.ensures i;
  engfmt = (c.from.ensures ∙ ap format_of
      c.letter_at.ensures) i;
  rawfmt = (c.from-2.ensures ∙ ap format_of c.letter_at-2.ensures) i;
  ncurve = c.natural_at.ensures i;
  inter = (c.from-3.ensures ∙ ap off_ends_of c.letter_at-3.ensures) i;
}
