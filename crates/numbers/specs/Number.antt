-- The language of numbers, as a walk over the characters of a text.
use Rattle.std.specs.Prelude.{ℕ, ◌+◌, ◌-◌, ◌*◌, ◌^◌, ◌≡◌, refl, List, [], ◌∷◌, Bool, true, false, cond, ◌&&◌, ◌||◌, ltb, leb, eqb, ℤ, pos, negsuc, neg_ℤ, nat_abs, Result, Ok, Err}
use Rattle.std.proofs.Math.Option.{Option, some, none}
use Rattle.laws.specs.Text.{ascii, char}
use Rattle.numbers.specs.declared.NumberError.{NumberError}
use Rattle.numbers.specs.declared.NumberError.TheVariants.{NotNumber, Beyond}

-- a character from the first of two to the second
abbrev pub between : ℕ → ℕ → ℕ → Bool
between a z c = leb a c && leb c z

-- 01: "hexadecimal, either case". The value of a digit of any base up to 16; 16 for any other character
unfoldable pub digit_of : ℕ → ℕ
digit_of c =
    cond (between (char "0") (char "9") c) (c - char "0")
    (cond (between (char "A") (char "F") c) (c - char "A" + 10)
    (cond (between (char "a") (char "f") c) (c - char "a" + 10) 16))

-- What the characters so far are. Each but `stuck` is the beginning of a number: see `goes_on`
pub data Spelling : Type 0 where
  start : Spelling
  minus : Spelling
  leading_zero : Spelling
  minus_zero : Spelling
  hex_mark : Spelling
  digits : (base : ℕ) (negative : Bool) (value : ℕ) → Spelling
  stuck : Spelling

-- one more digit of a base
unfoldable pub digit_on : ℕ → Bool → ℕ → ℕ → Spelling
digit_on base negative value c = cond (ltb (digit_of c) base) (digits base negative (value * base + digit_of c)) stuck

-- 01: "A number is decimal, octal after a leading 0, or hexadecimal, either case, after 0x or 0X. A minus may stand
-- before a decimal that is "0" or starts with 1 to 9. No plus, no spaces."
-- What the characters are with one more, c
unfoldable pub after : Spelling → ℕ → Spelling
after start c = cond (eqb c (char "-")) minus (cond (eqb c (char "0")) leading_zero (digit_on 10 false 0 c))
after minus c = cond (eqb c (char "0")) minus_zero (digit_on 10 true 0 c)
after leading_zero c = cond (eqb c (char "x") || eqb c (char "X")) hex_mark (digit_on 8 false 0 c)
after minus_zero c = stuck
after hex_mark c = digit_on 16 false 0 c
after (digits base negative value) c = digit_on base negative value c
after stuck c = stuck

-- what they are after all characters of a text
unfoldable pub spelt : Spelling → List ℕ → Spelling
spelt s [] = s
spelt s (c ∷ cs) = spelt (after s c) cs

-- the number that a whole text with this spelling is, if it is one
unfoldable pub meaning : Spelling → Option ℤ
meaning start = none
meaning minus = none
meaning leading_zero = some (pos 0)
meaning minus_zero = some (pos 0)
meaning hex_mark = none
meaning (digits base false value) = some (pos value)
meaning (digits base true value) = some (neg_ℤ (pos value))
meaning stuck = none

-- the number that a text is, however large, if it is one
unfoldable pub number_of : List ℕ → Option ℤ
number_of text = meaning (spelt start text)

-- 01 leaves a number free that is longer than any column: one of 2 ^ 60 or more in magnitude is told apart
unfoldable pub answer_of : Option ℤ → Result ℤ NumberError
answer_of none = Err NotNumber
answer_of (some v) = cond (ltb (nat_abs v) (2 ^ 60)) (Ok v) (Err Beyond)

pub record Examples : Type 0 where
  -- 01: "0x12F4 is 4,852; 0767 is 503; 08 is reason 6"
  pub hexadecimal : number_of (ascii "0x12F4") ≡ some (pos 4852)
  pub octal : number_of (ascii "0767") ≡ some (pos 503)
  pub no_octal : number_of (ascii "08") ≡ none
  pub minus_zero_lem : number_of (ascii "-0") ≡ some (pos 0)
  pub minus_twelve : number_of (ascii "-12") ≡ some (negsuc 11)
  pub minus_octal : number_of (ascii "-07") ≡ none
  pub no_plus : number_of (ascii "+1") ≡ none
  pub no_digits_lem : number_of (ascii "0x") ≡ none
  -- the third character is the first at which no number can go on
  pub goes_wrong : (spelt start (ascii "12") ≡ digits 10 false 12) × (spelt start (ascii "12 ") ≡ stuck)

pub examples : Examples
unfolding number_of meaning spelt after digit_on digit_of
examples = record {
  hexadecimal = refl;
  octal = refl;
  no_octal = refl;
  minus_zero_lem = refl;
  minus_twelve = refl;
  minus_octal = refl;
  no_plus = refl;
  no_digits_lem = refl;
  goes_wrong = (refl, refl);
}
