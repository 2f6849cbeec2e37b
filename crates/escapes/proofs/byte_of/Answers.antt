-- Each test says which case of `byte_of` holds.
use native.Mathlib.Omega.{arith}
use borrow.Author.Tests.{lt-ltb, le-ltb}
use Rattle.escapes.specs.Escapes.{byte_of}
use Rattle.escapes.proofs.byte_of.Goals as goal

pub returns-then-h-gt15 : goal.returns-then-h-gt15
unfolding byte_of
returns-then-h-gt15 c = (rw (← c.digit-h.ensures, lt-ltb 15 c.digit-h.result c.if-h-gt15.true), omega arith)

pub returns-then-l-gt15 : goal.returns-then-l-gt15
unfolding byte_of
returns-then-l-gt15 c = let d = c.digit-h in
    let e = c.digit-l in
    (rw (← d.ensures, ← e.ensures, le-ltb 15 d.result (omega arith), lt-ltb 15 e.result c.if-l-gt15.true), omega arith)

pub returns : goal.returns
unfolding byte_of
returns c = let d = c.digit-h in
    let e = c.digit-l in
    (rw (← d.ensures, ← e.ensures, le-ltb 15 d.result (omega arith), le-ltb 15 e.result (omega arith)), omega arith)
