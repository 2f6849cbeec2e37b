-- One byte is looked up in the kind's letters; any other length is no letter.
use Rattle.column_checks.proofs.ReasonLaws.{listed_one, listed_not_one}
use Rattle.column_checks.proofs.letters.letter_reason.Goals as goal

pub returns-then-is_letter : goal.returns-then-is_letter
returns-then-is_letter c = rw (listed_one _ _ c.if-text-eq1.true, ← c.is_letter.ensures, c.if-is_letter.true)

pub returns-then-text-eq1 : goal.returns-then-text-eq1
returns-then-text-eq1 c = rw (listed_one _ _ c.if-text-eq1.true, ← c.is_letter.ensures, c.if-is_letter.false)

pub returns : goal.returns
returns c = rw (listed_not_one _ _ c.if-text-eq1.false)
