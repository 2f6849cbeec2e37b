-- Each case is refused by its own number, at its table.
use Rattle.outcomes.specs.Refusals.{refusal_number, refusal_place}
use Rattle.tables.proofs.RefusalFromSizeError.from.Goals as goal

pub returns-in-TooLong : goal.returns-in-TooLong
unfolding refusal_number refusal_place
returns-in-TooLong c = rw c.in-TooLong.is

pub returns-in-TooManyRows : goal.returns-in-TooManyRows
unfolding refusal_number refusal_place
returns-in-TooManyRows c = rw c.in-TooManyRows.is
