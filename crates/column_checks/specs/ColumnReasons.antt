-- Reasons 4 to 7, 13 and 14: what a column is refused for by itself.
use Rattle.std.specs.Prelude.{ℕ, ◌≡◌, refl, List, [], ◌∷◌, Bool, false, cond, ◌&&◌, eqb, ltb, length, ℤ}
use Rattle.std.proofs.Math.Option.{Option, some, none}
use Rattle.std.specs.Int.Signed.{le_z}
use Rattle.laws.specs.Lists.{any}
use Rattle.laws.specs.Text.{ascii}
use Rattle.numbers.specs.Number.{number_of, meaning, spelt, after, digit_on, digit_of}
use Rattle.number_positions.specs.Positions.{no_digits}
use Rattle.notation.specs.Positions.{lone_minus}
use Rattle.coefficients.specs.Coefficient.{coefficient_of, coefficient_reason}
use Rattle.column_checks.specs.Schema.{ColumnKind, any_text, a_number, a_letter, a_coefficient, Column, natural!, letter}

-- the byte is one of a list
unfoldable pub is_in : ℕ → List ℕ → Bool
is_in b letters = any (eqb b) letters

-- a text of one byte, which is one of a list
unfoldable pub listed : List ℕ → List ℕ → Bool
listed letters [] = false
listed letters (b ∷ []) = is_in b letters
listed letters (b ∷ c ∷ bs) = false

-- 01: "6 not a number or not a listed letter, 7 out of range"; 02, P2: '6 becomes "no digits" …, 13 "a wrong digit",
-- for any other bad number, 14 "a letter not listed"'. bare: the text is one of those without digits
unfoldable pub number_reason : ℤ → ℤ → (bare : Bool) → Option ℤ → ℕ
number_reason lowest highest bare none = cond bare 6 13
number_reason lowest highest bare (some v) = cond (le_z lowest v && le_z v highest) 0 7

unfoldable pub kind_reason : ColumnKind → List ℕ → ℕ
kind_reason any_text t = 0
kind_reason (a_number lowest highest) t = number_reason lowest highest (no_digits t) (number_of t)
kind_reason (a_letter letters) t = cond (listed letters t) 0 14
kind_reason a_coefficient t = coefficient_reason (lone_minus t) (coefficient_of t)

-- 01: "4 mandatory and empty, 5 too wide"; an empty column that isn't mandatory passes
unfoldable pub column_reason : Column → List ℕ → ℕ
column_reason c [] = cond c.mandatory 4 0
column_reason c (b ∷ bs) = cond (ltb c.width (length (b ∷ bs))) 5 (kind_reason c.kind (b ∷ bs))

-- NBOCC of 08, in a mandatory column of 4 from 1 to 9999: 02, P2: "01's case 08 is now 13"
pub wrong_digit : column_reason (natural! 4 1 9999) (48 ∷ 56 ∷ []) ≡ 13
unfolding column_reason kind_reason number_reason no_digits number_of meaning spelt after digit_on digit_of
wrong_digit = refl

-- two letters where one of a list is asked are too wide
pub two_letters : column_reason (letter (ascii "YN")) (ascii "YN") ≡ 5
unfolding column_reason
two_letters = refl
