-- Both fields are the callees' answers.
use Rattle.rows.specs.Values.{optional_curve}
use Rattle.rows.proofs.at.optional_curve_at.Goals as goal

pub returns : goal.returns
unfolding optional_curve
returns c = rw (c.is_given.ensures, c.curve_name_of.ensures, c.column-text.ensures)
