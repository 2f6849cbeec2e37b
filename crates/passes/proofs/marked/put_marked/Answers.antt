use native.Mathlib.Omega.{arith}
use borrow.Author.Tests.{eq-eqb, ne_eqb}
use Rattle.passes.specs.Marked.{put_marked}
use Rattle.passes.proofs.marked.put_marked.Goals as goal

pub returns-then-mark-ne1 : goal.returns-then-mark-ne1
unfolding put_marked
returns-then-mark-ne1 c = rw (ne_eqb c.args.mark 1 (λ q. omega (arith, c.if-mark-ne1.true)))

pub returns : goal.returns
unfolding put_marked
returns c = rw (eq-eqb c.args.mark 1 (omega (arith, c.if-mark-ne1.false)))
    c.put_half.ensures
