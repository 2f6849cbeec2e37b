-- There are two characters, or none are read.
use Prim.Native.Nat.{◌+◌}
use native.Mathlib.Omega.{arith}
use lib.ListN.{length}
use borrow.Author.Tests.{lt-ltb, le-ltb}
use Rattle.escapes.specs.Escapes.{byte_at}
use Rattle.escapes.proofs.byte_at.Goals as goal

pub returns-then-raw-i : goal.returns-then-raw-i
unfolding byte_at
returns-then-raw-i c = let a = c.args in
    (rw (le-ltb (a.i + 1) (length a.raw.now) (omega arith)), omega arith)

pub returns-then-raw-i-2 : goal.returns-then-raw-i-2
unfolding byte_at
returns-then-raw-i-2 c = let a = c.args in
    (rw (le-ltb (a.i + 1) (length a.raw.now) (omega arith)), omega arith)

pub returns : goal.returns
unfolding byte_at
returns c = let a = c.args in
    (rw (lt-ltb (a.i + 1) (length a.raw.now) (omega arith)) c.byte_of.ensures.0, c.byte_of.ensures.1)
