use mathlib.Core.Path.{refl}
use Rattle.laws.proofs.Values.{write_start, write_flag, write_end}
use Rattle.arrays.specs.Room.{most_places}
use Rattle.chains.proofs.EndLaws.{known_none}
use Rattle.chains.proofs.circles.mark_circles.Goals as goal

pub loop-i-init : goal.loop-i-init
loop-i-init c = (write_start _ _ _, known_none _ most_places)

pub comes_back-back-requires : goal.comes_back-back-requires
comes_back-back-requires c = c.loop-i.invariant.1

pub loop-i-preserved : goal.loop-i-preserved
loop-i-preserved c = (write_flag _ _ _ _ _ c.loop-i.invariant.0 _ _ _ c.loop-i-test.true c.put_flag.ensures c.comes_back-back.ensures.value refl, c.comes_back-back.ensures.known_ends)

pub returns : goal.returns
returns c = write_end _ _ _ _ _ c.loop-i.invariant.0 c.loop-i-test.false
