use Rattle.std.proofs.Common.{sym, ◌∙◌}
use Rattle.archives.proofs.FrameLaws.{next_less}
use Rattle.surveying.proofs.SurveyLaws.{surveys_none, surveys_more, surveys_end}
use Rattle.surveying.proofs.counting.survey.Goals as goal

pub loop-end-init : goal.loop-end-init
loop-end-init c = surveys_none _ _ _

pub loop-end-smaller : goal.loop-end-smaller
loop-end-smaller c = next_less _ _ (sym c.packet_at.ensures ∙ c.in-Some.is)

pub loop-end-preserved : goal.loop-end-preserved
loop-end-preserved c = surveys_more _ _ _ c.loop-end.invariant (sym c.packet_at.ensures ∙ c.in-Some.is) c.part-packet.ensures c.ask-told.ensures c.note-tally.ensures

pub returns : goal.returns
returns c = surveys_end _ _ _ c.loop-end.invariant (sym c.packet_at.ensures ∙ c.in_default.is)
