-- Each field is its column's.
use Rattle.laws.proofs.Words.{kept}
use mathlib.Core.Path.{ap, ◌∙◌}
use Rattle.rows.specs.Values.{category_of, nature_of}
use Rattle.decoding.proofs.pcf_row.Goals as goal

pub returns : goal.returns
returns c = λ i. record {
  name = c.name_at.ensures i;
  ptc = c.natural_at.ensures i;
  pfc = c.natural_at-2.ensures i;
  valid = c.optional_name_at.ensures i;
  categ = (c.from.ensures ∙ ap category_of c.letter_at.ensures) i;
  natur = (c.from-2.ensures ∙ ap nature_of c.letter_at-2.ensures) i;
  curtx = c.optional_curve_at.ensures i;
  valpar = kept c.integer_at.type_inv c.integer_at.ensures i;
}
