use Prim.Native.Nat.{◌+◌, ◌<◌}
use mathlib.Core.Path.{◌≡◌, refl}
use native.Mathlib.Omega.{arith}
use lib.ListN.{length, length-set}
use Rattle.archives.proofs.BlockLaws.{moved_more, moved_all}
use Rattle.archives.proofs.move_rest.Goals as goal

pub loop-i-init : goal.loop-i-init
loop-i-init c = (refl, refl, omega arith, c.count_between-count.ensures)

pub loop-i-preserved : goal.loop-i-preserved
loop-i-preserved c = let h : c.args.from + c.loop-i.i < length c.args.block.now = omega arith in
    (rw c.loop-i.invariant.0 (moved_more c.args.block.now c.args.from _ h), simp length-set c.loop-i.invariant.1, omega arith, c.loop-i.invariant.3)

pub returns : goal.returns
returns c = let k : c.loop-i.i ≡ c.count_between-count.result = omega arith in
    moved_all _ _ _ _ _ c.loop-i.invariant.3 (rw k at c.loop-i.invariant.0)
