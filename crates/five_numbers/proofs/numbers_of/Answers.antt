-- Each number by itself.
use mathlib.Core.Path.{ap₂}
use Prim.Native.Nat.{ℕ}
use Rattle.five_numbers.specs.Numbers.{numbers_of}
use Rattle.five_numbers.proofs.numbers_of.Goals as goal

pub returns : goal.returns
unfolding numbers_of
returns c = ap₂ (λ (t u : ℕ). record { ptype = t; stype = u; apid = c.args.head.apid; pi1 = c.args.pair.pi1; pi2 = c.args.pair.pi2 })
    c.header_byte.ensures c.header_byte-2.ensures
