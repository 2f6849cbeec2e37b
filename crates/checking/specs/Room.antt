-- Arrays that have room for the checks of a parameter.
use Rattle.std.specs.Prelude.{ℕ, ◌≡◌, refl, List, ℤ, pos, length, replicate}

-- 01 takes no table of over 1,024 rows, so that a parameter has at most as many checks
pub record Room (lows highs : List ℤ) (levels : List ℕ) : Type 0 where
  pub low : length lows ≡ 1024
  pub high : length highs ≡ 1024
  pub level : length levels ≡ 1024

-- as arrays of 1,024 zeros have it
pub example : Room (replicate 1024 (pos 0)) (replicate 1024 (pos 0)) (replicate 1024 0)
example = record { low = refl; high = refl; level = refl }
