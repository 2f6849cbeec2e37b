-- By its fields.
use mathlib.Core.Path.{refl}
use Rattle.playing.specs.Plays.{fresh_state}
use Rattle.playing.proofs.fresh_replay.Goals as goal

pub returns : goal.returns
unfolding fresh_state
returns c = (refl, refl)
