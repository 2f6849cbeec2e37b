-- By how many places are lent.
use mathlib.Core.Path.{sym, ◌∙◌}
use native.Mathlib.Omega.{arith}
use Rattle.packet_questions.proofs.PacketReplyLaws.{by_natural_lem, by_unread}
use Rattle.index_questions.specs.IndexReplies.{index_in}
use Rattle.index_questions.proofs.IndexReplyLaws.{entries_fit}
use Rattle.index_questions.proofs.index_lent.Goals as goal

pub index_first-requires : goal.index_first-requires
index_first-requires c = omega (arith, entries_fit _ _ (sym c.entries_lent.ensures ∙ c.in-Some.is))

pub returns-in-Some : goal.returns-in-Some
unfolding index_in
returns-in-Some c = c.index_first.ensures ∙ by_natural_lem _ _ c.in-Some.room (sym c.entries_lent.ensures ∙ c.in-Some.is)

pub returns-in-None : goal.returns-in-None
unfolding index_in
returns-in-None c = c.unread.ensures ∙ by_unread _ _ (sym c.entries_lent.ensures ∙ c.in-None.is)
