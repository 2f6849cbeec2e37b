-- The number where the text is given.
use Rattle.rows.specs.Values.{optional_apid}
use Rattle.rows.proofs.at.optional_apid_at.Goals as goal

pub returns-then-is_given : goal.returns-then-is_given
unfolding optional_apid
returns-then-is_given c = rw (← c.column-text.ensures, ← c.is_given.ensures, c.if-is_given.true, c.natural_or.ensures)

pub returns : goal.returns
unfolding optional_apid
returns c = rw (← c.column-text.ensures, ← c.is_given.ensures, c.if-is_given.false)
