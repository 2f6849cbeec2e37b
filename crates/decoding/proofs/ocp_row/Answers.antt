-- Each field is its column's.
use Rattle.laws.proofs.Words.{kept}
use mathlib.Core.Path.{ap, ◌∙◌}
use Rattle.rows.specs.Values.{check_type_of}
use Rattle.decoding.proofs.ocp_row.Goals as goal

pub returns : goal.returns
returns c = λ i. record {
  name = c.name_at.ensures i;
  pos = c.natural_at.ensures i;
  check = (c.from.ensures ∙ ap check_type_of c.letter_at.ensures) i;
  lvalu = kept c.integer_at.type_inv c.integer_at.ensures i;
  hvalu = kept c.integer_at-2.type_inv c.integer_at-2.ensures i;
  rlchk = c.optional_name_at.ensures i;
  valpar = kept c.integer_at-3.type_inv c.integer_at-3.ensures i;
}
