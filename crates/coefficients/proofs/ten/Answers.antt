-- `coefficients::ten` meets its contract: each entry's bits are those of its power of ten, which antt computes.
use mathlib.Core.Path.{◌∙◌, ap}
use mathlib.Core.Bool.{Bool}
use mathlib.Core.List.{List, [], ◌∷◌}
use Prim.Native.Nat.{ℕ, ◌^◌}
use native.Mathlib.Omega.{arith}
use lib.Dec.{eqb, eqb→eq}
use lib.IntN.{pos}
use lib.ListN.{get_or, get_or-map}
use lib.Ieee.{binary64, of_int, of_bits, to_bits}
use lib.Ieee.Fits.{of_int-fits}
use lib.Ieee.Bits.{of_bits-to_bits}
use Rattle.coefficients.proofs.Tables.{at}
use Rattle.coefficients.proofs.ten.Goals as goal

-- the bits of the table's entries
patterns : List ℕ
patterns =
    0x3ff0000000000000 ∷ 0x4024000000000000 ∷ 0x4059000000000000 ∷ 0x408f400000000000 ∷ 0x40c3880000000000 ∷ 0x40f86a0000000000 ∷
    0x412e848000000000 ∷ 0x416312d000000000 ∷ 0x4197d78400000000 ∷ 0x41cdcd6500000000 ∷ 0x4202a05f20000000 ∷ 0x42374876e8000000 ∷
    0x426d1a94a2000000 ∷ 0x42a2309ce5400000 ∷ 0x42d6bcc41e900000 ∷ 0x430c6bf526340000 ∷ 0x4341c37937e08000 ∷ 0x4376345785d8a000 ∷
    0x43abc16d674ec800 ∷ 0x43e158e460913d00 ∷ 0x4415af1d78b58c40 ∷ 0x444b1ae4d6e2ef50 ∷ 0x4480f0cf064dd592 ∷ []

-- whether an entry's bits are right
right : ℕ → ℕ → Bool
unfolding of_int to_bits
right k b = eqb b (to_bits binary64 (of_int binary64 (pos (10 ^ k))))

pub returns : goal.returns
unfolding patterns right of_bits
returns c = let k = c.args.k in
    let bits = to_bits binary64 (of_int binary64 (pos (10 ^ k))) in
    get_or-map (of_bits binary64) patterns k 0x7ff8000000000000
    ∙ ap (of_bits binary64) (eqb→eq (get_or patterns k 0x7ff8000000000000) bits (at right 0x7ff8000000000000 patterns tt k (omega arith)))
    ∙ of_bits-to_bits binary64 (of_int binary64 (pos (10 ^ k))) (of_int-fits binary64 (pos (10 ^ k)))
