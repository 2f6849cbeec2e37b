-- Bits in hexadecimal digits.
use Rattle.std.specs.Prelude.{ℕ, zero, suc, ◌+◌, ◌/◌, ◌%◌, ◌≡◌, refl, Bool, false, cond, List, [], ◌∷◌, ◌++◌, ltb}
use Rattle.laws.specs.Text.{ascii}
use Rattle.answers.specs.declared.answer.Answer.{Answer}
use Rattle.answers.specs.Answers.{words_answer, saying, one}

-- a digit below 16: `0` to `9`, then `A` to `F`
unfoldable pub hex_digit : ℕ → ℕ
hex_digit d = cond (ltb d 10) (48 + d) (55 + d)

-- the last k digits of a number, the most significant first
unfoldable pub hexadecimal : (k : ℕ) → ℕ → List ℕ
hexadecimal zero n = []
hexadecimal (suc k) n = hexadecimal k (n / 16) ++ hex_digit (n % 16) ∷ []

-- a double by its bits
unfoldable pub double_answer : (bits : ℕ) → Answer
double_answer bits = words_answer (ascii "double " ++ hexadecimal 16 bits)

-- bits that were read, after their number, and before these words
unfoldable pub bits_answer : (words : List ℕ) → (pattern width : ℕ) → Answer
bits_answer words pattern width = saying (ascii "# bits " ++ (hexadecimal 16 pattern ++ words)) false (one width)

-- 01: "A reading is valid only when …"
abbrev pub validity_words : (valid : Bool) → List ℕ
validity_words valid = cond valid (ascii ", valid") (ascii ", invalid")

-- 0.5
pub example : hexadecimal 16 0x3FE0000000000000 ≡ ascii "3FE0000000000000"
unfolding hexadecimal hex_digit
example = refl
