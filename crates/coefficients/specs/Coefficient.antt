-- The double that the text of a coefficient is. `lib.Ieee` says over whole numbers what each operation gives: the exact
-- fraction, rounded once to the nearest double, a tie to the even one.
use Rattle.std.specs.Prelude.{ℕ, ◌+◌, ◌-◌, ◌^◌, ◌≡◌, refl, List, [], Bool, true, false, cond, leb, pos, Float}
use Rattle.std.specs.Float.{binary64}
use Rattle.std.specs.Float.Ieee.{mul, div, neg, of_int, of_bits}
use Rattle.laws.specs.Text.{ascii}
use Rattle.notation.specs.Stages.{on_digit, in_digits, stage_after, stage_from, is_coefficient}
use Rattle.notation.specs.Scientific.{with_digit, with_character, scientific_from, parsed, parsed_of}
use Rattle.notation.specs.declared.Scientific.{Scientific}
use Rattle.notation.specs.declared.Parsed.{Parsed}
use Rattle.notation.specs.declared.Parsed.TheVariants as written
use Rattle.coefficients.specs.declared.Coefficient.{Coefficient}
use Rattle.coefficients.specs.declared.Coefficient.TheVariants.{Double, NotCoefficient, PowerOutOfRange, TooWide}

-- a whole number as a double
abbrev pub double : ℕ → Float
double n = of_int binary64 (pos n)

-- 02, P1: "the minus applied last"
unfoldable pub with_sign : Bool → Float → Float
with_sign false x = x
with_sign true x = neg x

-- 02, P1: "The exponent less the digits after the point must be −22 to 22, else reason 7. The number is one rounded
-- product or quotient of two exact doubles"
-- the exponent less the digits after the point is up - down
unfoldable pub scaled : (negative : Bool) (digits up down : ℕ) → Coefficient
scaled m n up down =
    cond (leb down up)
    (cond (leb (up - down) 22) (Double (with_sign m (mul binary64 (double n) (double (10 ^ (up - down)))))) PowerOutOfRange)
    (cond (leb (down - up) 22) (Double (with_sign m (div binary64 (double n) (double (10 ^ (down - up)))))) PowerOutOfRange)

-- the powers of ten by which the digits are multiplied and divided
abbrev pub up_of : Scientific → ℕ
up_of n = cond n.lowers 0 n.exponent

abbrev pub down_of : Scientific → ℕ
down_of n = cond n.lowers (n.exponent + n.places) n.places

unfoldable pub double_of : Scientific → Coefficient
double_of n = scaled n.negative n.digits (up_of n) (down_of n)

unfoldable pub valued : Parsed → Coefficient
valued (written.Parts n) = double_of n
valued written.NotCoefficient = NotCoefficient
valued written.TooWide = TooWide

-- what a text is
unfoldable pub coefficient_of : List ℕ → Coefficient
coefficient_of text = valued (parsed_of text)

-- 02, P1: "else reason 7"; 02, P2: '6 becomes "no digits", for "-" …, 13 "a wrong digit", for any other bad number';
-- 01: "5 too wide". 0 where it is good. bare: the text is a minus alone
unfoldable pub coefficient_reason : (bare : Bool) → Coefficient → ℕ
coefficient_reason bare (Double x) = 0
coefficient_reason bare NotCoefficient = cond bare 6 13
coefficient_reason bare PowerOutOfRange = 7
coefficient_reason bare TooWide = 5

-- a double by its bits
abbrev bits : ℕ → Coefficient
bits n = Double (of_bits binary64 n)

pub record GoodTexts : Type 0 where
  pub five : coefficient_of (ascii "5") ≡ bits 0x4014000000000000
  pub point_last : coefficient_of (ascii "5.") ≡ bits 0x4014000000000000
  pub point_mark : coefficient_of (ascii "1.e5") ≡ bits 0x40F86A0000000000
  pub half : coefficient_of (ascii "0.5") ≡ bits 0x3FE0000000000000
  pub eight : coefficient_of (ascii "08") ≡ bits 0x4020000000000000
  pub minus_zero_lem : coefficient_of (ascii "-0") ≡ bits 0x8000000000000000
  pub small : coefficient_of (ascii "1E-05") ≡ bits 0x3EE4F8B588E368F1
  pub tenth : coefficient_of (ascii "0.1") ≡ bits 0x3FB999999999999A
  pub minus : coefficient_of (ascii "-1.5e3") ≡ bits 0xC097700000000000
  pub highest : coefficient_of (ascii "1e22") ≡ bits 0x4480F0CF064DD592
  pub shifted : coefficient_of (ascii "1.0e23") ≡ bits 0x44B52D02C7E14AF6
  pub lowest : coefficient_of (ascii "1e-22") ≡ bits 0x3B5E392010175EE6
  pub long : coefficient_of (ascii "1e000000000022") ≡ bits 0x4480F0CF064DD592

pub good_texts : GoodTexts
unfolding coefficient_of valued double_of scaled with_sign mul div neg of_int of_bits
    parsed_of parsed is_coefficient scientific_from with_character with_digit stage_from stage_after in_digits on_digit
good_texts = record {
  five = refl;
  point_last = refl;
  point_mark = refl;
  half = refl;
  eight = refl;
  minus_zero_lem = refl;
  small = refl;
  tenth = refl;
  minus = refl;
  highest = refl;
  shifted = refl;
  lowest = refl;
  long = refl;
}

pub record BadTexts : Type 0 where
  pub point_first : coefficient_of (ascii ".5") ≡ NotCoefficient
  pub minus_point : coefficient_of (ascii "-.5") ≡ NotCoefficient
  pub plus : coefficient_of (ascii "+1") ≡ NotCoefficient
  pub mark_last : coefficient_of (ascii "1e") ≡ NotCoefficient
  pub sign_last : coefficient_of (ascii "1e+") ≡ NotCoefficient
  pub two_points : coefficient_of (ascii "1..2") ≡ NotCoefficient
  pub minus_alone : coefficient_of (ascii "-") ≡ NotCoefficient
  pub space : coefficient_of (ascii "1 ") ≡ NotCoefficient
  pub hexadecimal : coefficient_of (ascii "0x1") ≡ NotCoefficient
  pub empty : coefficient_of [] ≡ NotCoefficient
  pub too_high : coefficient_of (ascii "1e23") ≡ PowerOutOfRange
  pub too_low : coefficient_of (ascii "1.0e-22") ≡ PowerOutOfRange
  pub zero_too : coefficient_of (ascii "0e23") ≡ PowerOutOfRange
  pub far : coefficient_of (ascii "1e999999999999") ≡ PowerOutOfRange
  pub wide : coefficient_of (ascii "0.1000000000000") ≡ TooWide
  pub reasons : (coefficient_reason true NotCoefficient ≡ 6) × (coefficient_reason false NotCoefficient ≡ 13)

pub bad_texts : BadTexts
unfolding coefficient_reason coefficient_of valued double_of scaled
    parsed_of parsed is_coefficient scientific_from with_character with_digit stage_from stage_after in_digits on_digit
bad_texts = record {
  point_first = refl;
  minus_point = refl;
  plus = refl;
  mark_last = refl;
  sign_last = refl;
  two_points = refl;
  minus_alone = refl;
  space = refl;
  hexadecimal = refl;
  empty = refl;
  too_high = refl;
  too_low = refl;
  zero_too = refl;
  far = refl;
  wide = refl;
  reasons = (refl, refl);
}
