-- A double that is compared with itself, and its bits.
use Rattle.std.proofs.Common.{◌≡◌, ℕ, true, false, not, T, sym, subst, arith}
use lib.Ieee.{Float, nan, inf, fin, binary64, ne, is_nan, to_bits}
use lib.Ieee.Compare.{differs_from_itself, nan_differs}

pub no_nan : (x : Float) → ne x x ≡ false → T (not (is_nan x))
unfolding is_nan
no_nan nan e = let z : ◌≡◌ {A = ℕ} 0 1 = cc nan_differs in absurd (omega arith)
no_nan (inf s) e = tt
no_nan (fin s m k) e = tt

-- the one pattern that `to_bits` has for a NaN
pub nan_bits : (x : Float) → ne x x ≡ true → 0x7ff8000000000000 ≡ to_bits binary64 x
unfolding to_bits
nan_bits x e = rw (differs_from_itself x (subst T (sym e) tt))
