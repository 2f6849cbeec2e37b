-- Whether a run of bits lies in a packet.
use Rattle.std.specs.Prelude.{◌≡◌, refl, Bool, true, false, ◌&&◌, List, [], ◌∷◌, ℕ, zero, suc, ◌+◌, ◌*◌, ltb, length}

-- the bytes p have a bit k
unfoldable pub bit_inside : List ℕ → ℕ → Bool
bit_inside p k = ltb k (length p * 8)

-- 01: "a bit of the field lies outside"
-- none of the n bits from bit `at` does
unfoldable pub inside : List ℕ → ℕ → ℕ → Bool
inside p at zero = true
inside p at (suc n) = inside p at n && bit_inside p (at + n)

-- two bytes have bits 0 to 15
last_bit : (inside (0 ∷ 0 ∷ []) 12 4 ≡ true) × (inside (0 ∷ 0 ∷ []) 12 5 ≡ false)
unfolding bit_inside inside
last_bit = (refl, refl)
