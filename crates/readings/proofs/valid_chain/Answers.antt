-- At most as many rows as a block has.
use mathlib.Core.Path.{◌≡◌}
use Prim.Native.Nat.{min}
use native.Mathlib.Omega.{arith}
use Rattle.readings.specs.Chain.{block_rows}
use Rattle.readings.proofs.valid_chain.Goals as goal

pub returns-then-n-lt-BLOCK_ROWS : goal.returns-then-n-lt-BLOCK_ROWS
returns-then-n-lt-BLOCK_ROWS c = let e : min c.args.n block_rows ≡ c.args.n = omega arith in rw e c.valid_along.ensures

pub returns : goal.returns
returns c = let e : min c.args.n block_rows ≡ block_rows = omega arith in rw e c.valid_along-2.ensures
