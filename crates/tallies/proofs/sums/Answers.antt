use mathlib.Core.Path.{◌∙◌}
use mathlib.Core.List.{append-nil}
use native.Mathlib.Omega.{arith}
use lib.ListN.{replicate}
use Rattle.laws.proofs.Values.{write_start, write_more, write_end, written}
use Rattle.scripts.specs.Words.{question_count}
use Rattle.tallies.proofs.sums.Invariants.{sum_at}
use Rattle.tallies.proofs.sums.Goals as goal

pub loop-k-init : goal.loop-k-init
loop-k-init c = write_start _ _ _

pub loop-k-preserved : goal.loop-k-preserved
loop-k-preserved c = write_more _ _ _ _ _ c.loop-k.invariant c.sum.result c.loop-k-test.true c.sum.ensures

pub returns : goal.returns
returns c = write_end _ _ _ _ _ c.loop-k.invariant c.loop-k-test.false ∙ written (sum_at c.args.a c.args.b) (replicate question_count 0) question_count (omega arith) ∙ append-nil _
