-- The bits of a packet, and the number that a run of them makes.
use Rattle.std.specs.Prelude.{◌≡◌, refl, List, [], ◌∷◌, ℕ, zero, suc, ◌+◌, ◌-◌, ◌*◌, ◌/◌, ◌%◌, ◌^◌, get_or}

-- 01: "All are most significant bit first."
-- bit k of the bytes p, counted from the most significant bit of the first byte
unfoldable pub bit_at : List ℕ → ℕ → ℕ
bit_at p k = get_or p (k / 8) 0 / 2 ^ (7 - k % 8) % 2

-- the number that the n bits from bit `at` make, the first of them the most significant
unfoldable pub number_at : List ℕ → ℕ → ℕ → ℕ
number_at p at zero = 0
number_at p at (suc n) = number_at p at n * 2 + bit_at p (at + n)

-- A0 7F is 1010 0000 0111 1111: bit 2 is 1, and the seven bits from bit 4 are 0000 011
two_bytes : (bit_at (0xA0 ∷ 0x7F ∷ []) 2 ≡ 1) × (number_at (0xA0 ∷ 0x7F ∷ []) 4 7 ≡ 3)
unfolding bit_at number_at
two_bytes = (refl, refl)
