-- A fraction rounded down.
use Rattle.std.specs.Prelude.{◌≡◌, refl, ℕ, ◌/◌, ℤ, pos, negsuc}

-- 01: "exact fraction is rounded down"
-- the greatest integer not above z / d; -(n + 1) / d is at least -(n / d + 1)
unfoldable pub floor_div : ℤ → ℕ → ℤ
floor_div (pos n) d = pos (n / d)
floor_div (negsuc n) d = negsuc (n / d)

-- 15 / 10 is 1, -15 / 10 is -2, and -20 / 10 is -2
tenths : (floor_div (pos 15) 10 ≡ pos 1) × (floor_div (negsuc 14) 10 ≡ negsuc 1) × (floor_div (negsuc 19) 10 ≡ negsuc 1)
unfolding floor_div
tenths = (refl, refl, refl)
