-- Engineering values.
use Rattle.std.specs.Prelude.{◌≡◌, refl, false, [], ℤ, pos, Float, Option, Some, None, Result, Ok, Err}
use Rattle.std.specs.Float.{binary64}
use Rattle.std.specs.Float.Ieee.{add, mul, of_int, of_bits}
use Rattle.name_bytes.specs.Names.{curve_name_of}
use Rattle.rows.specs.declared.records.PcfRow.{PcfRow}
use Rattle.rows.specs.declared.records.OptionalCurve.{OptionalCurve}
use Rattle.rows.specs.declared.letters.Category.{Category}
use Rattle.rows.specs.declared.letters.Category.TheVariants as category
use Rattle.calibration.specs.Nearest.{nearest_of, not_above}
use Rattle.outcomes.specs.Outcome.{Outcome, answer, refused, and_then}
use Rattle.outcomes.specs.Values.{Value, number, value_of}
use Rattle.outcomes.specs.Refusals.{refusal_number, refusal_place, refused_by}
use Rattle.outcomes.specs.declared.Refusal.{Refusal}
use Rattle.outcomes.specs.declared.Refusal.TheVariants.{NoText}
use Rattle.database.specs.Rows.{Rows}
use Rattle.database.specs.GoodRows.{among}
use Rattle.polynomials.specs.Polynomial.{multiply_add, horner, polynomial_at}
use Rattle.polynomials.specs.declared.Polynomial.{Polynomial}
use Rattle.polynomial_curves.specs.Polynomials.{polynomial_for}
use Rattle.curve_values.specs.Scale.{scale_of, on_scale}
use Rattle.texts.specs.Texts as texts
use Rattle.texts.specs.Texts.{found_in, text_in, text_for}
use Rattle.engineering.specs.declared.engineer.Engineered as code
use Rattle.engineering.specs.declared.engineer.Engineered.TheVariants.{Is, Double, Text}

-- 02, P1: "An engineering answer is now an integer, a double or a text. Strings stay the packet's parts": a value is an
-- integer or a part
pub data Engineered : Type 0 where
  value : Value → Engineered
  double : Float → Engineered
  text : texts.Text → Engineered

unfoldable pub as_value : ℤ → Outcome Engineered
as_value z = answer (value (number z))

unfoldable pub as_text : texts.Text → Outcome Engineered
as_text t = answer (text t)

-- the value of a polynomial; without one, this
unfoldable pub by_polynomial : Option Polynomial → ℤ → Outcome Engineered → Outcome Engineered
by_polynomial (Some p) raw other = answer (double (polynomial_at p raw))
by_polynomial None raw other = other

-- 02, P1: "N parameters may name either": a polynomial, or a row of caf
unfoldable pub numeric_value : Rows → OptionalCurve → ℤ → Outcome Engineered
numeric_value rows curtx raw = by_polynomial (polynomial_for rows curtx) raw (and_then (on_scale (scale_of rows curtx) raw) as_value)

-- 01: "N without CURTX and T answer the raw value"; "S needs CURTX, naming a txf row"
unfoldable pub by_category : Rows → Category → OptionalCurve → ℤ → Outcome Engineered
by_category rows category.Numeric curtx raw = numeric_value rows curtx raw
by_category rows category.Status curtx raw = and_then (text_for rows curtx.name raw) as_text
by_category rows category.Text curtx raw = as_value raw

-- by the pcf row of the parameter
unfoldable pub engineered : Rows → PcfRow → ℤ → Outcome Engineered
engineered rows row raw = by_category rows row.categ row.curtx raw

-- 01's number and values of each case
unfoldable pub said_engineered : Result code.Engineered Refusal → Outcome Engineered
said_engineered (Ok (Is v)) = answer (value (value_of v))
said_engineered (Ok (Double x)) = answer (double x)
said_engineered (Ok (Text t)) = answer (text (record { row = t.row.0; start = t.start.0; bytes = t.bytes }))
said_engineered (Err refusal) = refused_by refusal

abbrev without : OptionalCurve
without = record { given = false; name = curve_name_of [] }

-- 0.5 + 2 x
abbrev half : Polynomial
half =
    let zero : Float = of_bits binary64 0 in
    record { pol1 = of_bits binary64 0x3FE0000000000000; pol2 = of_bits binary64 0x4000000000000000; pol3 = zero; pol4 = zero; pol5 = zero }

-- without rows: N without CURTX and T as they were read, and S without a text
pub record Examples : Type 0 where
  pub numeric : by_category (among []) category.Numeric without (pos 7) ≡ answer (value (number (pos 7)))
  pub string : by_category (among []) category.Text without (pos 7) ≡ answer (value (number (pos 7)))
  pub status : by_category (among []) category.Status without (pos 7) ≡ refused 32 0
  pub said : said_engineered (Err NoText) ≡ refused 32 0
  -- 0.5 + 2 x at 7
  pub polynomial : by_polynomial (Some half) (pos 7) (refused 31 0) ≡ answer (double (of_bits binary64 0x402D000000000000))

pub examples : Examples
unfolding
    by_category numeric_value by_polynomial polynomial_for polynomial_at horner multiply_add add mul of_int of_bits as_value and_then on_scale scale_of
    text_for text_in found_in not_above nearest_of among said_engineered refused_by refusal_number refusal_place
examples = record { numeric = refl; string = refl; status = refl; said = refl; polynomial = refl }
