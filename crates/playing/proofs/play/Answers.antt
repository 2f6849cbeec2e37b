use mathlib.Core.Path.{sym, ◌∙◌}
use native.Mathlib.Omega.{arith}
use Rattle.archives.proofs.FrameLaws.{next_less}
use Rattle.playing.proofs.PlayLaws.{plays_none, plays_more, plays_end}
use Rattle.playing.proofs.play.Goals as goal

pub loop-end-init : goal.loop-end-init
loop-end-init g c = plays_none _ _ (omega arith)

pub loop-end-smaller : goal.loop-end-smaller
loop-end-smaller g c = next_less _ _ (sym c.packet_at.ensures ∙ c.in-Some.is)

pub loop-end-preserved : goal.loop-end-preserved
loop-end-preserved g c = let whole = sym c.packet_at.ensures ∙ c.in-Some.is in
    plays_more _ _ c.loop-end.invariant whole c.part-packet.ensures c.offer-replay.ensures.state_value c.offer-replay.ensures.packets_value

pub returns : goal.returns
returns g c = plays_end _ _ c.loop-end.invariant (sym c.packet_at.ensures ∙ c.in_default.is)
