-- The nearest of several numbers, in any order, to a value, on one side of it.
use Rattle.std.specs.Prelude.{◌≡◌, refl, Bool, cond, List, [], ◌∷◌, ℕ, zero, suc, ℤ, pos, negsuc, length, get_or, Option, Some, None}
use Rattle.std.specs.Int.Signed.{lt_z, le_z}
use Rattle.calibration.specs.declared.nearest.Side.{Side}
use Rattle.calibration.specs.declared.nearest.Side.TheVariants.{NotAbove, Below, Above}

-- x is on that side of v
unfoldable pub passes : Side → ℤ → ℤ → Bool
passes NotAbove v x = le_z x v
passes Below v x = lt_z x v
passes Above v x = lt_z v x

-- of two on that side, x is nearer than y: the greater below the value, the smaller above it
unfoldable pub nearer : Side → ℤ → ℤ → Bool
nearer NotAbove x y = lt_z y x
nearer Below x y = lt_z y x
nearer Above x y = lt_z x y

-- the element n, unless one is there that it is not nearer than
unfoldable pub closer : Side → List ℤ → Option ℕ → ℕ → Option ℕ
closer side xs None n = Some n
closer side xs (Some i) n = cond (nearer side (get_or xs n (pos 0)) (get_or xs i (pos 0))) (Some n) (Some i)

-- what is found, where the element n is looked at too
unfoldable pub better : Side → List ℤ → ℤ → Option ℕ → ℕ → Option ℕ
better side xs v best n = cond (passes side v (get_or xs n (pos 0))) (closer side xs best n) best

-- what is found among the first n elements
unfoldable pub nearest_of : Side → List ℤ → ℤ → ℕ → Option ℕ
nearest_of side xs v zero = None
nearest_of side xs v (suc n) = better side xs v (nearest_of side xs v n) n

-- 01: "the greatest FROM not above the raw value", and so of a curve's X
unfoldable pub not_above : List ℤ → ℤ → Option ℕ
not_above xs v = nearest_of NotAbove xs v (length xs)

-- 01: "Between neighbours", "the nearest two points": the greatest that is below, and the least that is above
unfoldable pub below : List ℤ → ℤ → Option ℕ
below xs v = nearest_of Below xs v (length xs)

unfoldable pub above : List ℤ → ℤ → Option ℕ
above xs v = nearest_of Above xs v (length xs)

-- of 20, -5, 10 and 0: not above 10 is 10, below it 0, and above it 20; none is above 20,
-- and -5 is the one not above -1
of_four : (
    let xs = pos 20 ∷ negsuc 4 ∷ pos 10 ∷ pos 0 ∷ [] in
    (not_above xs (pos 10) ≡ Some 2) × (below xs (pos 10) ≡ Some 3) × (above xs (pos 10) ≡ Some 0) × (above xs (pos 20) ≡ None) × (not_above xs (negsuc 0) ≡ Some 1)
    )
unfolding not_above below above nearest_of better closer nearer passes
of_four = (refl, refl, refl, refl, refl)
