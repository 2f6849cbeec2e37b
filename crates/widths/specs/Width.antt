-- The width of a field by its type code and format code: 01's table "Field widths by type".
use Rattle.std.specs.Prelude.{Some, None, ℕ, ◌+◌, ◌*◌, ◌≡◌, refl, cond, ◌||◌, ◌&&◌, leb, eqb}
use Rattle.std.specs.Prelude as std
use Rattle.std.proofs.Math.Option.{Option, some, none}

-- what the code's Option says: a width in bits, or that 01 has no such pair
unfoldable pub bits_of : std.Option ℕ → Option ℕ
bits_of (Some n) = some n
bits_of None = none

-- so many bits where n is from lowest to highest
unfoldable pub bits_within : ℕ → ℕ → ℕ → ℕ → Option ℕ
bits_within n lowest highest bits = cond (leb lowest n && leb n highest) (some bits) none

-- 01: "3, 4 | 0–12 | PFC + 4" and "3, 4 | 13; 14 | 24; 32"
unfoldable pub integer_width : ℕ → Option ℕ
integer_width pfc = cond (eqb pfc 13) (some 24) (cond (eqb pfc 14) (some 32) (bits_within pfc 0 12 (pfc + 4)))

-- 02, P6: "PFC 1 and 2 are IEEE 754 single and double"; "PFC 3 and 4 are MIL-STD-1750A in 32 and 48 bits"
unfoldable pub real_width : ℕ → Option ℕ
real_width pfc = cond (eqb pfc 1 || eqb pfc 3) (some 32) (cond (eqb pfc 2) (some 64) (cond (eqb pfc 4) (some 48) none))

-- 01: "1 | 0 | 1", "2, 6 | 1–32 | PFC", "7, 8 | 1–255 | 8 × PFC"; "Any other pair is reason 8 at column 6"
unfoldable pub width_of : ℕ → ℕ → Option ℕ
width_of ptc pfc =
    cond (eqb ptc 1) (bits_within pfc 0 0 1)
    (cond (eqb ptc 2 || eqb ptc 6) (bits_within pfc 1 32 pfc)
    (cond (eqb ptc 3 || eqb ptc 4) (integer_width pfc)
    (cond (eqb ptc 5) (real_width pfc)
    (cond (eqb ptc 7 || eqb ptc 8) (bits_within pfc 1 255 (8 * pfc))
    none))))

pub record Examples : Type 0 where
  pub sixteen : width_of 3 12 ≡ some 16
  pub twenty_four : width_of 4 13 ≡ some 24
  pub string : width_of 8 4 ≡ some 32
  pub single : width_of 5 1 ≡ some 32
  pub double : width_of 5 2 ≡ some 64
  pub extended : width_of 5 4 ≡ some 48
  pub missing : width_of 5 5 ≡ none

pub examples : Examples
unfolding width_of integer_width real_width bits_within
examples = record { sixteen = refl; twenty_four = refl; string = refl; single = refl; double = refl; extended = refl; missing = refl }
