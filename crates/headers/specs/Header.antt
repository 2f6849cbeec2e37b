-- The header of a packet by CCSDS 133.0, and refusals 20 to 23.
use Rattle.std.specs.Prelude.{◌≡◌, refl, Bool, true, not, cond, ◌&&◌, ◌||◌, List, [], ◌∷◌, ℕ, ◌+◌, eqb, ltb, length}
use Rattle.fields.specs.Bits.{bit_at, number_at}
use Rattle.fields.specs.Figures.{packet}
use Rattle.outcomes.specs.Outcome.{Outcome, refused, answer}
use Rattle.headers.specs.declared.Head.{Head}

-- the fields of the first six bytes, in their order
unfoldable pub version : List ℕ → ℕ
version p = number_at p 0 3

unfoldable pub type_bit : List ℕ → ℕ
type_bit p = number_at p 3 1

unfoldable pub flagged : List ℕ → Bool
flagged p = eqb (number_at p 4 1) 1

unfoldable pub apid : List ℕ → ℕ
apid p = number_at p 5 11

unfoldable pub sequence_count : List ℕ → ℕ
sequence_count p = number_at p 18 14

unfoldable pub length_field : List ℕ → ℕ
length_field p = number_at p 32 16

-- 01: "20 packet under 7 or over 8,192 bytes"; "21 version not 0, or the type bit set";
-- "22 length field plus 7 isn't the packet's length";
-- "23 data field header flagged, under 9 bytes"; "The least number decides". These refusals have no place: "else 0"
unfoldable pub head_of : List ℕ → Outcome Head
head_of p =
    cond (ltb (length p) 7 || ltb 8192 (length p)) (refused 20 0)
    (cond (not (eqb (version p) 0) || not (eqb (type_bit p) 0)) (refused 21 0)
    (cond (not (eqb (length_field p + 7) (length p))) (refused 22 0)
    (cond (flagged p && ltb (length p) 9) (refused 23 0)
    (answer (record { flagged = flagged p; apid = apid p; count = sequence_count p })))))

pub record Examples : Type 0 where
  -- 01: "Packet `08 0A C0 00 …`: APID 10"; it flags a data field header, and its sequence count is 0
  pub figure : head_of packet ≡ answer (record { flagged = true; apid = 10; count = 0 })
  pub short : head_of (0x08 ∷ 0x0A ∷ []) ≡ refused 20 0

pub examples : Examples
unfolding packet head_of version type_bit length_field flagged apid sequence_count number_at bit_at
examples = record { figure = refl; short = refl }
