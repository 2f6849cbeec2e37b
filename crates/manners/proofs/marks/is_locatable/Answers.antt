-- Each nature's arm is the definition's case for it.
use Rattle.verdicts.specs.Facts.{pcf_facts}
use Rattle.manners.proofs.marks.is_locatable.Goals as goal

pub returns-in-Raw : goal.returns-in-Raw
unfolding pcf_facts
returns-in-Raw c = rw c.in-Raw.is

pub returns-in-Dynamic : goal.returns-in-Dynamic
unfolding pcf_facts
returns-in-Dynamic c = rw c.in-Dynamic.is

pub returns-in-Expression : goal.returns-in-Expression
unfolding pcf_facts
returns-in-Expression c = rw c.in-Expression.is

pub returns-in-HardCoded : goal.returns-in-HardCoded
unfolding pcf_facts
returns-in-HardCoded c = rw c.in-HardCoded.is

pub returns-in-Saved : goal.returns-in-Saved
unfolding pcf_facts
returns-in-Saved c = rw c.in-Saved.is

pub returns-in-Constant : goal.returns-in-Constant
unfolding pcf_facts
returns-in-Constant c = rw c.in-Constant.is
