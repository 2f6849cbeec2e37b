-- Laws of a VALID chain that was read: the rows that are left.
use mathlib.Core.Path.{◌≡◌, refl}
use mathlib.Core.Bool.{Bool, ◌&&◌}
use mathlib.Core.List.{List}
use Prim.Native.Nat.{ℕ, zero, suc, ◌+◌, ◌-◌}
use native.Mathlib.Omega.{arith}
use native.Mathlib.Numerals.{add-one}
use lib.IntN.{ℤ, pos}
use lib.ListN.{get_or}
use Rattle.outcomes.specs.Outcome.{Outcome}
use Rattle.outcomes.specs.Values.{number}
use Rattle.readings.specs.Readings.{Reading, same_integer, equals, agrees, with_validity}
use Rattle.readings.specs.Chain.{valid_along}

-- one row: there is none left, or its validity parameter is asked
module _ (values valpars : List ℤ) (last : Bool) (at left : ℕ) where
  pub along_stop : left ≡ 0 → last ≡ valid_along values valpars last at left
  unfolding valid_along
  along_stop e = rw e

  pub along_step : (left ≡ 0 → ⊥) → (read : Outcome Reading)
      → read ≡ with_validity (valid_along values valpars last (at + 1) (left - 1)) (number (get_or values at (pos 0)))
      → agrees read (get_or valpars at (pos 0)) ≡ valid_along values valpars last at left
  unfolding agrees equals with_validity valid_along
  along_step n read e = rw (e, add-one at) (by left n)
    where
      by : (m : ℕ) → (m ≡ 0 → ⊥) → (valid_along values valpars last (suc at) (m - 1) && same_integer (get_or values at (pos 0)) (get_or valpars at (pos 0)))
          ≡ valid_along values valpars last at m
      by zero n = absurd (n refl)
      by (suc m) n = let e : suc m - 1 ≡ m = omega arith in rw e
