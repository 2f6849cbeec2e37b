use mathlib.Core.Path.{refl, sym, ◌∙◌}
use native.Mathlib.Omega.{arith}
use lib.ListN.{length-set}
use native.Mathlib.Nat.{add-zero}
use Rattle.areas.proofs.MemoryLaws.{put_more, put_none}
use Rattle.areas.proofs.put.Goals as goal

pub loop-i-init : goal.loop-i-init
loop-i-init c = (omega arith, refl, rw (add-zero))

pub loop-i-preserved : goal.loop-i-preserved
loop-i-preserved c = (omega arith, simp length-set c.loop-i.invariant.1, sym (put_more c.loop-i.space c.args.at c.args.bytes.now c.loop-i.i (omega arith)) ∙ c.loop-i.invariant.2)

pub returns : goal.returns
returns c = sym (put_none c.loop-i.space c.args.at c.args.bytes.now c.loop-i.i (omega arith)) ∙ c.loop-i.invariant.2
