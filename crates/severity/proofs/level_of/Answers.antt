-- Each kind of check.
use mathlib.Core.Path.{sym, ap}
use Rattle.severity.specs.Levels.{level_of}
use Rattle.severity.proofs.level_of.Goals as goal

pub returns-in-Soft : goal.returns-in-Soft
unfolding level_of
returns-in-Soft c = sym (ap level_of c.in-Soft.is)

pub returns-in-Hard : goal.returns-in-Hard
unfolding level_of
returns-in-Hard c = sym (ap level_of c.in-Hard.is)

pub returns-in-Delta : goal.returns-in-Delta
unfolding level_of
returns-in-Delta c = sym (ap level_of c.in-Delta.is)

pub returns-in-Consistency : goal.returns-in-Consistency
unfolding level_of
returns-in-Consistency c = sym (ap level_of c.in-Consistency.is)

pub returns-in-Event : goal.returns-in-Event
unfolding level_of
returns-in-Event c = sym (ap level_of c.in-Event.is)
