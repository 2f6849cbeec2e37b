use Prim.Native.Nat.{min}
use mathlib.Core.Path.{◌≡◌}
use native.Mathlib.Omega.{arith}
use Rattle.passes.proofs.HolderLaws.{noted_none, noted_more}
use Rattle.passes.proofs.holders.note_rows.Goals as goal

pub loop-i-init : goal.loop-i-init
loop-i-init c = (omega arith, c.numbered-most.ensures, noted_none _ _ _)

pub loop-i-preserved : goal.loop-i-preserved
loop-i-preserved c = (omega arith, c.loop-i.invariant.1, noted_more _ _ _ _ _ c.loop-i.invariant.2 _ _ c.byte_at.ensures c.half_at.ensures _ c.put_marked.ensures)

pub returns : goal.returns
returns c = let e : c.loop-i.i ≡ min c.args.n 65535 = omega (arith, c.loop-i.invariant.1) in rw (← e) c.loop-i.invariant.2
