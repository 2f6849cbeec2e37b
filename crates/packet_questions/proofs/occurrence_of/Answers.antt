-- By how many columns there are.
use mathlib.Core.Path.{ap, ◌∙◌}
use Rattle.packet_questions.proofs.PacketReplyLaws.{occurrence_none, occurrence_named, occurrence_unread}
use Rattle.scripts.specs.Numerals.{natural_in}
use Rattle.packet_questions.proofs.occurrence_of.Goals as goal

pub returns-then-count-eq1 : goal.returns-then-count-eq1
returns-then-count-eq1 c = occurrence_none _ _ c.column_count-count.ensures c.if-count-eq1.true

pub returns-then-count-eq2 : goal.returns-then-count-eq2
returns-then-count-eq2 c = c.natural_in.ensures ∙ ap natural_in c.column_at.ensures
    ∙ occurrence_named _ c.column_count-count.result c.column_count-count.ensures c.if-count-eq1.false c.if-count-eq2.true

pub returns : goal.returns
returns c = occurrence_unread _ _ c.column_count-count.ensures c.if-count-eq1.false c.if-count-eq2.false
