-- Where a text goes wrong as a number.
use Rattle.std.specs.Prelude.{ℕ, ◌≡◌, refl, List, [], ◌∷◌, Bool, true, false, ◌&&◌, ◌||◌, eqb, ℤ}
use Rattle.std.proofs.Math.Option.{Option, some, none}
use Rattle.laws.specs.Text.{ascii, char}
use Rattle.laws.specs.Walks.{Walk, lead_on, wrong_at}
use Rattle.numbers.specs.Number.{Spelling, start, minus, leading_zero, minus_zero, hex_mark, digits, stuck, digit_of, digit_on, after, meaning}

unfoldable pub is_stuck : Spelling → Bool
is_stuck start = false
is_stuck minus = false
is_stuck leading_zero = false
is_stuck minus_zero = false
is_stuck hex_mark = false
is_stuck (digits base negative value) = false
is_stuck stuck = true

-- a whole text is a number
unfoldable pub is_number : Option ℤ → Bool
is_number none = false
is_number (some v) = true

-- the language of numbers as a walk; its words are the texts that are numbers: see `words_numbers`
abbrev pub number_walk : Walk Spelling
number_walk = record { start = start; after = after; ends = λ s. is_number (meaning s); stuck = is_stuck }

-- 02, P2: "the position, from 1, of the first character at which no allowed number can go on, or one past the end"
abbrev pub wrong_in_number : List ℕ → ℕ
wrong_in_number text = wrong_at number_walk text

-- 02, P2: '6 becomes "no digits", for "-" and, outside mcf, "0x" and "0X"'
unfoldable pub no_digits : List ℕ → Bool
no_digits [] = false
no_digits (a ∷ []) = eqb a (char "-")
no_digits (a ∷ b ∷ []) = eqb a (char "0") && (eqb b (char "x") || eqb b (char "X"))
no_digits (a ∷ b ∷ c ∷ cs) = false

pub record Examples : Type 0 where
  -- 02, P2: "01's case 08 is now 13 at position 2"
  pub octal : wrong_in_number (ascii "08") ≡ 2
  pub minus_alone : wrong_in_number (ascii "-") ≡ 2
  pub mark_alone : wrong_in_number (ascii "0x") ≡ 3
  pub minus_octal : wrong_in_number (ascii "-07") ≡ 3
  pub minus_mark : wrong_in_number (ascii "-0x") ≡ 3
  pub space : wrong_in_number (ascii "1 ") ≡ 2
  pub plus : wrong_in_number (ascii "+1") ≡ 1
  pub hexadecimal : wrong_in_number (ascii "0x1G") ≡ 4
  pub without : no_digits (ascii "0X") ≡ true
  pub letter : no_digits (ascii "0O8") ≡ false

pub examples : Examples
unfolding wrong_at lead_on is_stuck after digit_on digit_of no_digits
examples =
    record {
      octal = refl;
      minus_alone = refl;
      mark_alone = refl;
      minus_octal = refl;
      minus_mark = refl;
      space = refl;
      plus = refl;
      hexadecimal = refl;
      without = refl;
      letter = refl;
    }
