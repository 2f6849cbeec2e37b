use borrow.Author.Tests.{eq-eqb, ne_eqb}
use Rattle.symbols.specs.Arrays.{turned}
use Rattle.symbols.proofs.paths.turned.Goals as goal

pub returns-then-k-eq0 : goal.returns-then-k-eq0
unfolding turned
returns-then-k-eq0 c = rw (eq-eqb _ 0 c.if-k-eq0.true)

pub returns : goal.returns
unfolding turned
returns c = rw (ne_eqb _ 0 c.if-k-eq0.false)
