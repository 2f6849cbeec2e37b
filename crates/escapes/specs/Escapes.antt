-- The bytes that a part of a line stands for.
use Rattle.std.specs.Prelude.{ℕ, ◌+◌, ◌-◌, ◌*◌, ◌≤◌, ◌≡◌, refl, Bool, cond, List, [], ◌∷◌, ◌++◌, eqb, ltb, length, get_or, take}
use Rattle.std.specs.Prelude as rust
use Rattle.std.proofs.Math.Option.{Option, some, none}
use Rattle.laws.specs.Text.{ascii, char}
use Rattle.numbers.specs.Number.{digit_of}

-- the byte of two hexadecimal digits, either case; 256 where one is none
unfoldable pub byte_of : (high low : ℕ) → ℕ
byte_of high low = cond (ltb 15 (digit_of high)) 256 (cond (ltb 15 (digit_of low)) 256 (digit_of high * 16 + digit_of low))

-- the byte of the two characters at a place; 256 where there aren't two
unfoldable pub byte_at : List ℕ → ℕ → ℕ
byte_at raw i = cond (ltb (i + 1) (length raw)) (byte_of (get_or raw i 0) (get_or raw (i + 1) 0)) 256

-- bytes with one more in front
unfoldable pub before : ℕ → Option (List ℕ) → Option (List ℕ)
before b none = none
before b (some bs) = some (b ∷ bs)

-- 256 is no byte
unfoldable pub before_byte : ℕ → Option (List ℕ) → Option (List ℕ)
before_byte b bs = cond (ltb 255 b) none (before b bs)

-- `|` stands for a TAB, and any other character but `\` for itself
unfoldable pub plain : ℕ → ℕ
plain c = cond (eqb c (char "|")) 9 c

-- a text in which `\` and two digits stand for any byte
unfoldable pub unescaped : List ℕ → Option (List ℕ)
unescaped [] = some []
unescaped (c ∷ []) = cond (eqb c (char "\\")) none (before (plain c) (some []))
unescaped (c ∷ d ∷ []) = cond (eqb c (char "\\")) none (before (plain c) (unescaped (d ∷ [])))
unescaped (c ∷ d ∷ e ∷ cs) = cond (eqb c (char "\\")) (before_byte (byte_of d e) (unescaped cs)) (before (plain c) (unescaped (d ∷ e ∷ cs)))

-- bytes of two digits each; a space may stand between two of them
unfoldable pub hex_bytes : List ℕ → Option (List ℕ)
hex_bytes [] = some []
hex_bytes (c ∷ []) = cond (eqb c (char " ")) (some []) none
hex_bytes (c ∷ d ∷ cs) = cond (eqb c (char " ")) (hex_bytes (d ∷ cs)) (before_byte (byte_of c d) (hex_bytes cs))

-- a line feed ends a row
unfoldable pub ended_row : Option (List ℕ) → Option (List ℕ)
ended_row none = none
ended_row (some bs) = some (bs ++ 10 ∷ [])

-- unless a `\` at the very end of the line leaves it out
unfoldable pub is_open : List ℕ → Bool
is_open raw = eqb (get_or raw (length raw - 1) 0) (char "\\")

unfoldable pub row_bytes : List ℕ → Option (List ℕ)
row_bytes raw = cond (is_open raw) (unescaped (take (length raw - 1) raw)) (ended_row (unescaped raw))

-- a part of more bytes than there is room for can't be read
unfoldable pub where_room : (room : ℕ) → List ℕ → Option (List ℕ) → Option (List ℕ)
where_room room raw bytes = cond (ltb room (length raw)) none bytes

-- what is read of a buffer
unfoldable pub read_in : rust.Option ℕ → List ℕ → Option (List ℕ)
read_in (rust.Some n) out = some (take n out)
read_in rust.None out = none

-- and that it is no more than so many bytes
abbrev pub NoMoreThan : rust.Option ℕ → ℕ → Type 0
NoMoreThan (rust.Some n) most = n ≤ most
NoMoreThan rust.None most = Unit {0}

pub record Examples : Type 0 where
  pub row : row_bytes (ascii "A|\\7C") ≡ some (65 ∷ 9 ∷ 124 ∷ 10 ∷ [])
  pub unended : row_bytes (ascii "A\\") ≡ some (65 ∷ [])
  pub no_digit : unescaped (ascii "\\7G") ≡ none
  pub cut : unescaped (ascii "A\\7") ≡ none
  pub packet : hex_bytes (ascii "08 0a FF") ≡ some (8 ∷ 10 ∷ 255 ∷ [])
  pub half : hex_bytes (ascii "080") ≡ none

pub examples : Examples
unfolding row_bytes is_open unescaped hex_bytes ended_row before before_byte plain byte_of digit_of
examples = record { row = refl; unended = refl; no_digit = refl; cut = refl; packet = refl; half = refl }
