-- An engineering call is refused with a number that no curve and no text gives exactly where the extraction is,
-- and with its place.
use mathlib.Core.Path.{◌≡◌, refl, ap}
use mathlib.Core.Logic.{◌↔◌}
use mathlib.Core.Bool.{false}
use mathlib.Core.List.{List, [], ◌∷◌}
use mathlib.Core.Option.{some}
use Prim.Native.Nat.{ℕ}
use lib.Dec.{eqb}
use lib.IntN.{ℤ}
use Rattle.laws.specs.Lists.{any}
use Rattle.name_bytes.specs.Names.{name_of}
use Rattle.decoding.specs.Records.{pcf_row}
use Rattle.rows.specs.declared.letters.Category.{Category}
use Rattle.rows.specs.declared.letters.Category.TheVariants.{Numeric, Status, Text}
use Rattle.rows.specs.declared.records.PcfRow.{PcfRow}
use Rattle.tables.specs.Sizes.{Sized, fit, refused_by, sizes_of}
use Rattle.verdicts.specs.Key.{parameter}
use Rattle.outcomes.specs.Outcome.{Outcome, answer, refused, and_then}
use Rattle.outcomes.specs.Values.{Value, number, part, bits}
use Rattle.database.specs.Rows.{Row, Rows}
use Rattle.database.specs.GoodRows.{of_tables}
use Rattle.identification.specs.Identification.{identify_by}
use Rattle.raw_values.specs.RawValues.{raw_of}
use Rattle.parameters.specs.Located.{needed, located}
use Rattle.readings.specs.Readings.{Reading, with_validity, reading_with, validity, reading}
use Rattle.engineering.specs.Engineering.{Engineered, engineered}
use Rattle.calls.specs.Tables.{after_sizes, asking}
use Rattle.extraction.specs.Extraction.{extract_by}
use Rattle.extraction.specs.Engineering.{engineered_from, engineer_by}
use Rattle.calls.specs.Calls.{extract_of, engineer_of}
use Rattle.at_verdicts.proofs.NumberLaws.{number_in, Numbered, never_one, then_refused, earlier}
use Rattle.at_verdicts.proofs.StepRows.{located_found}
use Rattle.at_verdicts.proofs.ByCategory.{numeric_numbers, by_text, as_string, for_numbers}

-- 01: "30, 31, 32"
abbrev engineering : List ℕ
engineering = 30 ∷ 31 ∷ 32 ∷ []

engineered_numbers : (rows : Rows) (r : PcfRow) (raw : ℤ) → Numbered engineering (engineered rows r raw)
engineered_numbers rows r raw = go r.categ refl
  where
    go : (c : Category) → r.categ ≡ c → Numbered engineering (engineered rows r raw)
    go Numeric c = numeric_numbers rows r raw engineering refl refl c
    go Status c = rw (by_text rows r raw c) (for_numbers engineering refl rows r raw)
    go Text c = rw (as_string rows r raw c)

module _ (rows : Rows) (p name : List ℕ) (k n place : ℕ) (other : any (eqb n) (0 ∷ engineering) ≡ false) where
  abbrev asks : Reading → Outcome Engineered
  asks r = engineered_from rows (name_of name) r.value

  -- what is read has its pcf row
  read_described : (r : Reading) → extract_by rows p name k ≡ answer r → (pcf : Row) × (rows.holder (parameter (name_of name)) ≡ some pcf)
  unfolding extract_by reading reading_with
  read_described r e =
      let a = earlier (identify_by rows p) (λ id. reading rows p id.spid (name_of name) k) r e in
      let b = earlier (located rows a.0.spid (name_of name))
      (λ at. and_then (raw_of p at.plf at.pcf k) (with_validity (validity rows p a.0.spid at.pcf))) r a.2 in
      let f = located_found rows (name_of name) a.0.spid b.0 b.1 in
      (f.pcf, f.described)

  value_numbers : (v : Value) (pcf : Row) → rows.holder (parameter (name_of name)) ≡ some pcf → Numbered engineering (engineered_from rows (name_of name) v)
  unfolding engineered_from needed and_then
  value_numbers (part start bytes) pcf e = refl
  value_numbers (bits pattern width) pcf e = refl
  value_numbers (number z) pcf e = rw e (engineered_numbers rows (pcf_row pcf.bytes) z)

  as_extracted : engineer_by rows p name k ≡ refused n place → extract_by rows p name k ≡ refused n place
  unfolding engineer_by and_then
  as_extracted e = go (extract_by rows p name k) refl e
    where
      go : (o : Outcome Reading) → extract_by rows p name k ≡ o → and_then o asks ≡ refused n place → o ≡ refused n place
      go (refused m q) i e = cc
      go (answer r) i e =
          let d = read_described r i in
          absurd (never_one n engineering (asks r) other (value_numbers r.value d.0 d.1) (ap (λ (o : Outcome Engineered). number_in o) e))

  as_engineered : extract_by rows p name k ≡ refused n place → engineer_by rows p name k ≡ refused n place
  unfolding engineer_by
  as_engineered e = then_refused (extract_by rows p name k) asks n place e

-- 01: "The least number decides", of any tables: 1 and 2, 20 to 29
pub engineer_as_extract : (texts : List (List ℕ)) (p name : List ℕ) (k n place : ℕ) → any (eqb n) (0 ∷ engineering) ≡ false
    → (engineer_of texts p name k ≡ refused n place) ↔ (extract_of texts p name k ≡ refused n place)
unfolding engineer_of extract_of asking after_sizes
engineer_as_extract texts p name k n place other = go (sizes_of texts)
  where
    go : (s : Sized) → (after_sizes s (engineer_by (of_tables texts) p name k) ≡ refused n place)
        ↔ (after_sizes s (extract_by (of_tables texts) p name k) ≡ refused n place)
    go fit = (as_extracted (of_tables texts) p name k n place other, as_engineered (of_tables texts) p name k n place other)
    go (refused_by m q) = (λ e. cc, λ e. cc)
