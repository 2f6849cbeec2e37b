-- By the occurrence.
use mathlib.Core.Path.{sym, ◌∙◌}
use Rattle.packet_questions.proofs.PacketReplyLaws.{by_natural_lem, by_unread}
use Rattle.packet_questions.specs.PacketReplies.{engineer_reply}
use Rattle.packet_questions.proofs.ask_engineer.Goals as goal

pub returns-in-Some : goal.returns-in-Some
unfolding engineer_reply
returns-in-Some c = rw (c.say_engineered.ensures, c.engineer.ensures, c.column_at.ensures)
    (by_natural_lem _ _ c.in-Some.k (sym c.occurrence_of.ensures ∙ c.in-Some.is))

pub returns-in-None : goal.returns-in-None
unfolding engineer_reply
returns-in-None c = c.unread.ensures ∙ by_unread _ _ (sym c.occurrence_of.ensures ∙ c.in-None.is)
