-- A raw value off the curve of its parameter, or at which the curve's result is out of range.
use Rattle.std.specs.Prelude.{◌≡◌, Bool, true, List, ℕ, ℤ}
use Rattle.std.proofs.Math.Option.{some}
use Rattle.name_bytes.specs.Names.{name_of}
use Rattle.decoding.specs.Records.{pcf_row}
use Rattle.rows.specs.declared.letters.Category.TheVariants.{Numeric}
use Rattle.rows.specs.declared.records.PcfRow.{PcfRow}
use Rattle.verdicts.specs.Key.{parameter}
use Rattle.outcomes.specs.Outcome.{answer}
use Rattle.outcomes.specs.Values.{number}
use Rattle.database.specs.Rows.{Row, Rows}
use Rattle.readings.specs.Readings.{Reading}
use Rattle.curve_points.specs.Curves.{Curve, curve_of}
use Rattle.curve_values.specs.OffCurve.{is_off_curve}
use Rattle.extraction.specs.Extraction.{extract_by}
use Rattle.at_verdicts.specs.OutOfRange.{is_out_of_range}

-- a raw value is so by the curve of CURTX in a pcf row of CATEG N
pub record ByItsCurve (so : Curve → ℤ → Bool) (rows : Rows) (row : PcfRow) (raw : ℤ) : Type 0 where
  pub numeric : row.categ ≡ Numeric
  pub given : row.curtx.given ≡ true
  pub curve : Curve
  pub is : curve_of rows row.curtx.name ≡ some curve
  pub holds : so curve raw ≡ true

-- 01: "30 … raw value off an F curve"
abbrev pub OffItsCurve : Rows → PcfRow → ℤ → Type 0
OffItsCurve rows row raw = ByItsCurve is_off_curve rows row raw

-- 01: "31 … curve result outside −2,147,483,648 to 2,147,483,647"
abbrev pub OutOfItsRange : Rows → PcfRow → ℤ → Type 0
OutOfItsRange rows row raw = ByItsCurve is_out_of_range rows row raw

-- what a packet says of a parameter is a number, which is so by the parameter's good pcf row
pub record ReadSo (rows : Rows) (p name : List ℕ) (k : ℕ) (so : PcfRow → ℤ → Type 0) : Type 0 where
  pub reading : Reading
  pub read : extract_by rows p name k ≡ answer reading
  pub raw : ℤ
  pub is_number : reading.value ≡ number raw
  pub row : Row
  pub described : rows.holder (parameter (name_of name)) ≡ some row
  pub is : so (pcf_row row.bytes) raw
