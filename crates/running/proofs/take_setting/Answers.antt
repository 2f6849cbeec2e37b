-- By whether the line could be read.
use Rattle.std.proofs.Common.{ap, ◌∙◌}
use Rattle.running.proofs.ScriptLaws.{stood_self, set_read, set_unread}
use Rattle.running.specs.Script.{stood}
use Rattle.running.proofs.take_setting.Goals as goal

pub returns-then-l : goal.returns-then-l
returns-then-l g c = record { tally_after = set_read _ _ _ _ _ _ _ _ (rw c.text_of.ensures at c.set_line-l.ensures) c.if-l.true c.stands.ensures; value = stood_self _ _ _ c.stands.ensures }

pub returns : goal.returns
returns g c = let e = c.stands-2.ensures ∙ ap (stood _) c.count.ensures in record { tally_after = set_unread _ _ _ _ _ _ _ _ (rw c.text_of.ensures at c.set_line-l.ensures) c.if-l.false e; value = stood_self _ _ _ e }
