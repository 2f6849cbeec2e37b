-- What a column says: a number after its default, a letter, a name that may be missing.
use Rattle.std.specs.Prelude.{ℕ, ◌^◌, ◌≡◌, refl, List, [], ◌∷◌, Bool, true, false, cond, ltb, eqb, ℤ, pos, negsuc, nat_abs, Float, Some, None}
use Rattle.std.specs.Prelude.{Option as RustOption}
use Rattle.std.proofs.Math.Option.{Option, some, none}
use Rattle.laws.specs.Text.{ascii, char}
use Rattle.numbers.specs.Number.{number_of, meaning, spelt, after, digit_on, digit_of}
use Rattle.std.specs.Float.{binary64}
use Rattle.std.specs.Float.Ieee.{div, of_int, of_bits}
use Rattle.notation.specs.Stages.{on_digit, in_digits, stage_after, stage_from, is_coefficient}
use Rattle.notation.specs.Scientific.{with_digit, with_character, scientific_from, parsed, parsed_of}
use Rattle.coefficients.specs.Coefficient.{with_sign, scaled, double_of, valued, coefficient_of}
use Rattle.coefficients.specs.declared.Coefficient.{Coefficient}
use Rattle.coefficients.specs.declared.Coefficient.TheVariants.{Double, NotCoefficient, PowerOutOfRange, TooWide}
use Rattle.name_bytes.specs.Names.{name_of, curve_name_of}
use Rattle.rows.specs.declared.records.OptionalName.{OptionalName}
use Rattle.rows.specs.declared.records.OptionalCurve.{OptionalCurve}
use Rattle.rows.specs.declared.records.IdentificationField.{IdentificationField}
use Rattle.rows.specs.declared.records.IdentificationField.TheVariants.{Unused, At}
use Rattle.rows.specs.declared.letters.Valid.{Valid}
use Rattle.rows.specs.declared.letters.Valid.TheVariants.{Yes, No}
use Rattle.rows.specs.declared.letters.Category.{Category}
use Rattle.rows.specs.declared.letters.Category.TheVariants.{Numeric, Status, Text}
use Rattle.rows.specs.declared.letters.Nature.{Nature}
use Rattle.rows.specs.declared.letters.Nature.TheVariants.{Raw, Dynamic, Expression, HardCoded, Saved, Constant}
use Rattle.rows.specs.declared.letters.Format.{Format}
use Rattle.rows.specs.declared.letters.Format.TheVariants.{Signed, Unsigned, Real}
use Rattle.rows.specs.declared.letters.OffEnds.{OffEnds}
use Rattle.rows.specs.declared.letters.OffEnds.TheVariants.{Extrapolate, Refuse}
use Rattle.rows.specs.declared.letters.LimitValue.TheVariants as LV
use Rattle.rows.specs.declared.letters.LimitValue.{LimitValue}
use Rattle.rows.specs.declared.letters.LimitCoding.TheVariants as LC
use Rattle.rows.specs.declared.letters.LimitCoding.{LimitCoding}
use Rattle.rows.specs.declared.letters.CheckType.{CheckType}
use Rattle.rows.specs.declared.letters.CheckType.TheVariants.{Soft, Hard, Delta, Consistency, Event}

-- a number from 0 to 4,294,967,295, or else the default. In a well-formed row it is the number itself:
-- see `natural_exact`
unfoldable pub natural_from : ℕ → Option ℤ → ℕ
natural_from default none = default
natural_from default (some (pos n)) = cond (ltb n (2 ^ 32)) n default
natural_from default (some (negsuc n)) = default

unfoldable pub natural_or : ℕ → List ℕ → ℕ
natural_or default text = natural_from default (number_of text)

-- a number below 2 ^ 60 in magnitude, or else the default. In a well-formed row it is the number itself:
-- see `integer_exact`
unfoldable pub integer_from : ℤ → Option ℤ → ℤ
integer_from default none = default
integer_from default (some v) = cond (ltb (nat_abs v) (2 ^ 60)) v default

unfoldable pub integer_or : ℤ → List ℕ → ℤ
integer_or default text = integer_from default (number_of text)

-- plus zero, whose bits are all 0
abbrev pub plus_zero : Float
plus_zero = of_bits binary64 0

-- the double of a coefficient. 02, P1: "POL2 to POL5 14 each, default 0"
unfoldable pub coefficient_from : Coefficient → Float
coefficient_from (Double x) = x
coefficient_from NotCoefficient = plus_zero
coefficient_from PowerOutOfRange = plus_zero
coefficient_from TooWide = plus_zero

unfoldable pub coefficient_or_zero : List ℕ → Float
coefficient_or_zero text = coefficient_from (coefficient_of text)

-- the first byte of a text, 0 where it has none: the letter of a column of one letter
unfoldable pub letter_of : List ℕ → ℕ
letter_of [] = 0
letter_of (b ∷ bs) = b

unfoldable pub is_given : List ℕ → Bool
is_given [] = false
is_given (b ∷ bs) = true

unfoldable pub optional_name : List ℕ → OptionalName
optional_name text = record { given = is_given text; name = name_of text }

unfoldable pub optional_curve : List ℕ → OptionalCurve
optional_curve text = record { given = is_given text; name = curve_name_of text }

-- 01: "an empty APID is a key of its own"
unfoldable pub optional_apid : List ℕ → RustOption ℕ
optional_apid text = cond (is_given text) (Some (natural_or 0 text)) None

-- 01: "Offset −1 means unused"
unfoldable pub identification_field : (offset : ℤ) → (width : ℕ) → IdentificationField
identification_field (pos byte) width = At (record { 0 = byte }) width
identification_field (negsuc n) width = Unused

-- the same by the texts of its columns
abbrev pub identification_at : List ℕ → List ℕ → IdentificationField
identification_at offset width = identification_field (integer_or (pos 0) offset) (natural_or 0 width)

-- 01: "VALID 1 Y/N default Y"
unfoldable pub valid_of : ℕ → Valid
valid_of letter = cond (eqb letter (char "N")) No Yes

-- 01: "CATEG 1! N/S/T"
unfoldable pub category_of : ℕ → Category
category_of letter = cond (eqb letter (char "S")) Status (cond (eqb letter (char "T")) Text Numeric)

-- 01: "NATUR 1! R/D/P/H/S/C"
unfoldable pub nature_of : ℕ → Nature
nature_of letter =
    cond (eqb letter (char "D")) Dynamic
    (cond (eqb letter (char "P")) Expression
    (cond (eqb letter (char "H")) HardCoded
    (cond (eqb letter (char "S")) Saved
    (cond (eqb letter (char "C")) Constant Raw))))

-- 01: "ENGFMT 1! and RAWFMT 1! I/U/R"
unfoldable pub format_of : ℕ → Format
format_of letter = cond (eqb letter (char "U")) Unsigned (cond (eqb letter (char "R")) Real Signed)

-- 01: "INTER 1 P/F default F"
unfoldable pub off_ends_of : ℕ → OffEnds
off_ends_of letter = cond (eqb letter (char "P")) Extrapolate Refuse

-- 01: "INTER 1! U/C"
unfoldable pub limit_value_of : ℕ → LimitValue
limit_value_of letter = cond (eqb letter (char "C")) LV.Engineering LV.Raw

-- 01: "CODIN 1! R/A/I"
unfoldable pub limit_coding_of : ℕ → LimitCoding
limit_coding_of letter = cond (eqb letter (char "R")) LC.Real (cond (eqb letter (char "A")) LC.Text LC.Integer)

-- 01: "TYPE 1! S/H/D/C/E"
unfoldable pub check_type_of : ℕ → CheckType
check_type_of letter =
    cond (eqb letter (char "H")) Hard
    (cond (eqb letter (char "D")) Delta
    (cond (eqb letter (char "C")) Consistency
    (cond (eqb letter (char "E")) Event Soft)))

pub record Examples : Type 0 where
  pub default : natural_or 1 (ascii "") ≡ 1
  pub given : natural_or 1 (ascii "0x10") ≡ 16
  pub negative : integer_or (pos 1) (ascii "-9999") ≡ negsuc 9998
  pub half : coefficient_or_zero (ascii "5e-1") ≡ of_bits binary64 0x3FE0000000000000
  pub empty : coefficient_or_zero [] ≡ of_bits binary64 0

pub examples : Examples
unfolding
    natural_or natural_from integer_or integer_from number_of meaning spelt after digit_on digit_of
    coefficient_or_zero coefficient_from coefficient_of valued double_of scaled with_sign
    parsed_of parsed is_coefficient scientific_from with_character with_digit stage_from stage_after in_digits on_digit div of_int of_bits
examples = record { default = refl; given = refl; negative = refl; half = refl; empty = refl }
