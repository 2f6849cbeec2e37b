-- The numbers that a question or a setting names.
use Rattle.std.specs.Prelude.{ℕ, ◌≡◌, refl, cond, List, leb, ℤ, pos, negsuc, nat_abs, Option, Some, None, Result, Ok, Err}
use Rattle.std.specs.Int.Signed.{lt_z}
use Rattle.laws.specs.Text.{ascii}
use Rattle.numbers.specs.Number.{number_of, answer_of, meaning, spelt, after, digit_on, digit_of}
use Rattle.numbers.specs.declared.NumberError.{NumberError}
use Rattle.numbers.specs.declared.NumberError.TheVariants.{NotNumber, Beyond}

-- one of 2 ^ 60 or more stands for 2 ^ 64 - 1
unfoldable pub natural_of : Result ℤ NumberError → Option ℕ
natural_of (Ok v) = cond (lt_z v (pos 0)) None (Some (nat_abs v))
natural_of (Err NotNumber) = None
natural_of (Err Beyond) = Some 18446744073709551615

unfoldable pub natural_in : List ℕ → Option ℕ
natural_in text = natural_of (answer_of (number_of text))

-- at most so much
unfoldable pub at_most : ℕ → Option ℕ → Option ℕ
at_most most (Some n) = cond (leb n most) (Some n) None
at_most most None = None

-- one of 2 ^ 60 or more stands for 2 ^ 60, which is in no column's range
unfoldable pub integer_of : Result ℤ NumberError → Option ℤ
integer_of (Ok v) = Some v
integer_of (Err NotNumber) = None
integer_of (Err Beyond) = Some (pos 1152921504606846976)

unfoldable pub integer_text : List ℕ → Option ℤ
integer_text text = integer_of (answer_of (number_of text))

pub record Examples : Type 0 where
  pub hexadecimal : natural_in (ascii "0x10") ≡ Some 16
  pub too_large : at_most 15 (natural_in (ascii "0x10")) ≡ None
  pub no_natural : natural_in (ascii "-5") ≡ None
  pub negative : integer_text (ascii "-5") ≡ Some (negsuc 4)

pub examples : Examples
unfolding natural_in natural_of at_most integer_text integer_of number_of answer_of meaning spelt after digit_on digit_of
examples = record { hexadecimal = refl; too_large = refl; no_natural = refl; negative = refl }
