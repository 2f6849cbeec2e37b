use mathlib.Core.Path.{refl}
use Rattle.laws.proofs.Values.{write_start, write_flag, write_end}
use Rattle.arrays.specs.Room.{most_places}
use Rattle.chains.proofs.DepthLaws.{depths_none}
use Rattle.chains.proofs.firm.mark_firm.Goals as goal

pub loop-i-init : goal.loop-i-init
loop-i-init c = (write_start _ _ _, depths_none _ _ most_places)

pub is_firm-all-requires : goal.is_firm-all-requires
is_firm-all-requires c = c.loop-i.invariant.1

pub loop-i-preserved : goal.loop-i-preserved
loop-i-preserved c = (write_flag _ _ _ _ _ c.loop-i.invariant.0 _ _ _ c.loop-i-test.true c.put_flag.ensures c.is_firm-all.ensures.value refl, c.is_firm-all.ensures.known_depths)

pub returns : goal.returns
returns c = write_end _ _ _ _ _ c.loop-i.invariant.0 c.loop-i-test.false
