-- The search for the nearest, one element further.
use mathlib.Core.Path.{◌≡◌}
use mathlib.Core.Bool.{Bool, true, false, cond}
use mathlib.Core.List.{List}
use Prim.Native.Nat.{ℕ, ◌+◌}
use native.Mathlib.Numerals.{add-one}
use lib.IntN.{ℤ, pos}
use lib.ListN.{get_or}
use Rattle.calibration.specs.Nearest.{passes, nearer, closer, better, nearest_of}
use Rattle.std.specs.Prelude.{Option, Some, None}
use Rattle.calibration.specs.declared.nearest.Side.{Side}

module _ (side : Side) (xs : List ℤ) (v : ℤ) (n : ℕ) where
  -- an element on the other side changes nothing
  pub better_off : (best : Option ℕ) → passes side v (get_or xs n (pos 0)) ≡ false → best ≡ better side xs v best n
  unfolding better
  better_off best h = rw h

  -- the first one on this side is taken
  pub better_first : (best : Option ℕ) → best ≡ None → passes side v (get_or xs n (pos 0)) ≡ true → Some n ≡ better side xs v best n
  unfolding better closer
  better_first best e h = rw (e, h)

  -- a further one is taken where it is nearer
  pub better_than : (best : Option ℕ) (i : ℕ) (t : Bool) → best ≡ Some i → passes side v (get_or xs n (pos 0)) ≡ true
      → nearer side (get_or xs n (pos 0)) (get_or xs i (pos 0)) ≡ t → cond t (Some n) (Some i) ≡ better side xs v best n
  unfolding better closer
  better_than best i t e h k = rw (e, h, k)

  pub one_further : (best r : Option ℕ) → best ≡ nearest_of side xs v n → r ≡ better side xs v best n → r ≡ nearest_of side xs v (n + 1)
  unfolding nearest_of
  one_further best r e f = rw (add-one n, ← e) f
