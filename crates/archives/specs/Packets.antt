-- The packets that stand end to end in bytes, each as long as its own length field says.
use Rattle.std.specs.Prelude.{ℕ, zero, suc, ◌+◌, ◌*◌, ◌≡◌, refl, Bool, cond, List, [], ◌∷◌, leb, length, get_or, take, drop}

-- 01: "length field plus 7 isn't the packet's length"; the field is bytes 4 and 5
unfoldable pub length_said : List ℕ → ℕ
length_said bytes = get_or bytes 4 0 * 256 + get_or bytes 5 0 + 7

-- the packet that starts here is there to its end
unfoldable pub is_complete : List ℕ → Bool
is_complete bytes = leb (length_said bytes) (length bytes)

-- the packets of so many at most, and the bytes behind them
unfoldable pub packets_upto : ℕ → List ℕ → List (List ℕ)
packets_upto zero bytes = []
packets_upto (suc n) bytes = cond (is_complete bytes) (take (length_said bytes) bytes ∷ packets_upto n (drop (length_said bytes) bytes)) []

unfoldable pub left_upto : ℕ → List ℕ → List ℕ
left_upto zero bytes = bytes
left_upto (suc n) bytes = cond (is_complete bytes) (left_upto n (drop (length_said bytes) bytes)) bytes

-- all packets, of which there are fewer than bytes
unfoldable pub packets_in : List ℕ → List (List ℕ)
packets_in bytes = packets_upto (length bytes) bytes

-- what is left over at the end: a packet that is cut off, or nothing
unfoldable pub left_in : List ℕ → List ℕ
left_in bytes = left_upto (length bytes) bytes

-- packets of 7 and 8 bytes, and the first three of another
abbrev seven : List ℕ
seven = 0x08 ∷ 0x0A ∷ 0xC0 ∷ 0x00 ∷ 0x00 ∷ 0x00 ∷ 0xFF ∷ []

abbrev bytes : List ℕ
bytes =
    0x08 ∷ 0x0A ∷ 0xC0 ∷ 0x00 ∷ 0x00 ∷ 0x00 ∷ 0xFF ∷ 0x08 ∷ 0x0A ∷ 0xC0 ∷ 0x01 ∷ 0x00 ∷ 0x01 ∷ 0x12 ∷ 0x34 ∷ 0x08 ∷ 0x0A ∷ 0xC0 ∷ []

pub record Examples : Type 0 where
  pub shortest : length_said seven ≡ 7
  pub packets : packets_in bytes ≡ seven ∷ (0x08 ∷ 0x0A ∷ 0xC0 ∷ 0x01 ∷ 0x00 ∷ 0x01 ∷ 0x12 ∷ 0x34 ∷ []) ∷ []
  pub left : left_in bytes ≡ 0x08 ∷ 0x0A ∷ 0xC0 ∷ []

pub examples : Examples
unfolding length_said is_complete packets_upto left_upto packets_in left_in
examples = record { shortest = refl; packets = refl; left = refl }
