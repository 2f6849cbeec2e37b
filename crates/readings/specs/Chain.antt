-- Rows of a VALID chain that were read: what the validity parameter of each row says,
-- and the VALPAR that it must equal.
use Rattle.std.specs.Prelude.{ℕ, zero, suc, ◌≡◌, refl, Bool, true, false, ◌&&◌, List, [], ◌∷◌, ℤ, pos, get_or}
use Rattle.readings.specs.Readings.{same_integer}

-- a block of a chain has at most so many rows
abbrev pub block_rows : ℕ
block_rows = 16

-- whether readings of row `at` are valid, with `left` rows that have VALID from it on,
-- and then one that is valid or not.
-- 01: "is valid and equals the VALPAR of the reading's own pcf row"
unfoldable pub valid_along : (values valpars : List ℤ) (last : Bool) → (at left : ℕ) → Bool
valid_along values valpars last at zero = last
valid_along values valpars last at (suc left) = valid_along values valpars last (suc at) left && same_integer (get_or values at (pos 0)) (get_or valpars at (pos 0))

pub record Examples : Type 0 where
  pub valid : valid_along (pos 5 ∷ pos 1 ∷ []) (pos 5 ∷ pos 1 ∷ []) true 0 2 ≡ true
  pub other_value : valid_along (pos 5 ∷ pos 0 ∷ []) (pos 5 ∷ pos 1 ∷ []) true 0 2 ≡ false
  pub unreadable : valid_along (pos 5 ∷ []) (pos 5 ∷ []) false 0 1 ≡ false

pub examples : Examples
unfolding valid_along same_integer
examples = record { valid = refl; other_value = refl; unreadable = refl }
