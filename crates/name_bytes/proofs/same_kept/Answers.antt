-- `name_bytes::same_kept` meets its contract.
use native.Mathlib.Omega.{arith}
use borrow.Author.Tests.{eq-eqb, ne_eqb}
use Rattle.name_bytes.proofs.same_kept.Goals as goal

pub returns-then-n-m : goal.returns-then-n-m
returns-then-n-m c = let p = c.args in rw (ne_eqb p.n p.m (omega arith))

pub returns : goal.returns
returns c = let p = c.args in rw (eq-eqb p.n p.m (omega arith)) c.same_bytes.ensures
