-- Both fields are the callees' answers.
use Rattle.rows.specs.Values.{optional_name}
use Rattle.rows.proofs.at.optional_name_at.Goals as goal

pub returns : goal.returns
unfolding optional_name
returns c = rw (c.is_given.ensures, c.name_of.ensures, c.column-text.ensures)
