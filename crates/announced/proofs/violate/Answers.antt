-- `limits::severity::violate` meets its contract, from NBCHCK on and before it.
use Prim.Native.Nat.{◌≤◌, ◌<◌}
use native.Mathlib.Omega.{arith}
use borrow.Author.Tests.{le-leb, lt-leb}
use Rattle.announced.specs.Announced.{raised, violation}
use Rattle.announced.proofs.violate.Goals as goal

pub returns-then-nbchck-run : goal.returns-then-nbchck-run
unfolding violation
returns-then-nbchck-run c = let h : c.args.nbchck ≤ raised c.args.progress.run = omega arith in
    rw (c.raise-run.ensures, le-leb c.args.nbchck (raised c.args.progress.run) h)

pub returns : goal.returns
unfolding violation
returns c = let h : raised c.args.progress.run < c.args.nbchck = omega arith in
    rw (c.raise-run.ensures, lt-leb c.args.nbchck (raised c.args.progress.run) h)
