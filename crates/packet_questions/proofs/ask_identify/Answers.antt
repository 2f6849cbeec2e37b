-- No text follows the question.
use mathlib.Core.Path.{ap, ◌∙◌}
use Rattle.packet_questions.proofs.PacketReplyLaws.{identify_asked, identify_unread}
use Rattle.replies.specs.Replies.{reply_of, identity_answer}
use Rattle.packet_questions.proofs.ask_identify.Goals as goal

pub returns-then-text-eq0 : goal.returns-then-text-eq0
returns-then-text-eq0 c = c.say_identified.ensures ∙ ap (reply_of identity_answer) c.identify.ensures ∙ identify_asked _ _ _ c.if-text-eq0.true

pub returns : goal.returns
returns c = c.unread.ensures ∙ identify_unread _ _ _ c.if-text-eq0.false
