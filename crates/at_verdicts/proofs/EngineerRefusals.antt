-- Refusals 30, 31 and 32 of a call for an engineering value: the value read is off its F curve,
-- the curve's result out of range, or without a text.
use mathlib.Core.Path.{◌≡◌, refl, sym, ap, ◌∙◌}
use mathlib.Core.Logic.{◌↔◌}
use mathlib.Core.Bool.{true, false}
use mathlib.Core.List.{List, [], ◌∷◌}
use mathlib.Core.Option.{Option, none, some}
use Prim.Native.Nat.{ℕ}
use native.Mathlib.Omega.{arith}
use lib.Dec.{eqb}
use lib.IntN.{ℤ}
use Rattle.laws.specs.Lists.{any}
use Rattle.name_bytes.specs.Names.{name_of}
use Rattle.name_bytes.specs.declared.Name.{Name}
use Rattle.widths.specs.Width.{width_of}
use Rattle.decoding.specs.Records.{pcf_row}
use Rattle.rows.specs.declared.records.PcfRow.{PcfRow}
use Rattle.curves.specs.Line.{is_raw}
use Rattle.tables.specs.Sizes.{fit, sizes_of}
use Rattle.verdicts.specs.Key.{location, parameter}
use Rattle.outcomes.specs.Outcome.{Outcome, answer, refused, and_then}
use Rattle.outcomes.specs.Values.{Value, number, part, bits}
use Rattle.database.specs.Rows.{Row}
use Rattle.database.specs.GoodRows.{of_tables}
use Rattle.identification.specs.Identification.{identify_by}
use Rattle.raw_values.specs.RawValues.{raw_of}
use Rattle.parameters.specs.Located.{Located, by_lines, needed, located}
use Rattle.readings.specs.Readings.{Reading, with_validity, reading_with, validity, reading}
use Rattle.engineering.specs.Engineering.{Engineered, value, engineered}
use Rattle.calls.specs.Tables.{after_sizes, asking}
use Rattle.extraction.specs.Extraction.{extract_by}
use Rattle.extraction.specs.Engineering.{engineered_from, engineer_by}
use Rattle.calls.specs.Calls.{engineer_of}
use Rattle.at_verdicts.specs.OffCurve.{OffItsCurve, OutOfItsRange, ReadSo}
use Rattle.at_verdicts.specs.NoText.{Textless}
use Rattle.at_verdicts.proofs.NumberLaws.{number_in, Numbered, Never, never_one, never_then, then_is, later, earlier}
use Rattle.at_verdicts.proofs.PacketNumbers.{identifying, identify_numbers, reading as readingNumbers}
use Rattle.at_verdicts.proofs.ParameterRows.{plf_parameter}
use Rattle.at_verdicts.proofs.Extraction26.{located_is, located_none, reading_found, reading_none}
use Rattle.at_verdicts.proofs.RawRange.{raw_range}
use Rattle.at_verdicts.proofs.ByCategory.{engineered_30, engineered_31}
use Rattle.at_verdicts.proofs.NoText.{engineered_32}

-- What is read

-- the rows of a located parameter give its field a width
located_width : (texts : List (List ℕ)) (spid : ℕ) (name : Name) (at : Located) → located (of_tables texts) spid name ≡ answer at
    → (n : ℕ) × (width_of at.pcf.ptc at.pcf.pfc ≡ some n)
unfolding by_lines
located_width texts spid name at e = go ((of_tables texts).holder (location name spid)) refl
  where
    go : (o : Option Row) → (of_tables texts).holder (location name spid) ≡ o → (n : ℕ) × (width_of at.pcf.ptc at.pcf.pfc ≡ some n)
    go none q = let f = located_none (of_tables texts) spid name q in absurd (let z : ◌≡◌ {A = ℕ} 0 1 = cc in omega arith)
    go (some l) q =
        let d = plf_parameter texts name spid l q in
        let f = located_is (of_tables texts) spid name l d.row q d.found in
        let s : by_lines l.bytes d.row.bytes ≡ at = cc in
        (d.width, ap (λ (x : Located). width_of x.pcf.ptc x.pcf.pfc) (sym s) ∙ d.wide)

module _ (texts : List (List ℕ)) (p : List ℕ) (spid : ℕ) (name : Name) (k : ℕ) where
  -- a number that is read has at most 32 bits
  reading_raw : (r : Reading) (z : ℤ) → reading (of_tables texts) p spid name k ≡ answer r → r.value ≡ number z → is_raw z ≡ true
  unfolding reading reading_with with_validity
  reading_raw r z e v =
      let a = earlier (located (of_tables texts) spid name)
      (λ at. and_then (raw_of p at.plf at.pcf k) (with_validity (validity (of_tables texts) p spid at.pcf))) r e in
      let at = a.0 in
      let b = earlier (raw_of p at.plf at.pcf k) (with_validity (validity (of_tables texts) p spid at.pcf)) r a.2 in
      let s = b.2 in
      let q : record { value = b.0; valid = validity (of_tables texts) p spid at.pcf } ≡ r = cc in
      let w = located_width texts spid name at a.1 in
      raw_range p at.plf at.pcf k w.0 w.1 z (b.1 ∙ ap (λ (x : Value). answer x) (ap (λ (x : Reading). x.value) q ∙ v))

  -- it is refused with none but 26 and what a raw value is refused with
  reading_never : (n : ℕ) → any (eqb n) (0 ∷ 26 ∷ []) ≡ false → any (eqb n) (0 ∷ readingNumbers) ≡ false → Never n (reading (of_tables texts) p spid name k)
  reading_never n x y e = go ((of_tables texts).holder (location name spid)) refl
    where
      go : (o : Option Row) → (of_tables texts).holder (location name spid) ≡ o → ⊥
      go none q =
          never_one {A = Reading} n (26 ∷ []) (refused 26 0) x refl (ap (λ (o : Outcome Reading). number_in o) (sym (reading_none texts p spid name k q)) ∙ e)
      go (some l) q = never_one n readingNumbers (reading (of_tables texts) p spid name k) y (reading_found texts p spid name k l q) e

module _ (texts : List (List ℕ)) (p name : List ℕ) (k : ℕ) where
  extract_never : (n : ℕ) → any (eqb n) (0 ∷ 26 ∷ []) ≡ false → any (eqb n) (0 ∷ readingNumbers) ≡ false → any (eqb n) (0 ∷ identifying) ≡ false
      → Never n (extract_by (of_tables texts) p name k)
  unfolding extract_by
  extract_never n x y z =
      never_then n (identify_by (of_tables texts) p) (λ id. reading (of_tables texts) p id.spid (name_of name) k)
      (never_one n identifying (identify_by (of_tables texts) p) z (identify_numbers (of_tables texts) p))
      (λ id _. reading_never texts p id.spid (name_of name) k n x y)

  pub extract_raw : (r : Reading) (z : ℤ) → extract_by (of_tables texts) p name k ≡ answer r → r.value ≡ number z → is_raw z ≡ true
  unfolding extract_by
  extract_raw r z e v =
      let a = earlier (identify_by (of_tables texts) p) (λ id. reading (of_tables texts) p id.spid (name_of name) k) r e in
      reading_raw texts p a.0.spid (name_of name) k r z a.2 v

  -- What is made of it

  value_is : (z : ℤ) (row : Row) → (of_tables texts).holder (parameter (name_of name)) ≡ some row
      → engineered_from (of_tables texts) (name_of name) (number z) ≡ engineered (of_tables texts) (pcf_row row.bytes) z
  unfolding engineered_from needed and_then
  value_is z row e = rw e

  value_none : (z : ℤ) → (of_tables texts).holder (parameter (name_of name)) ≡ none → engineered_from (of_tables texts) (name_of name) (number z) ≡ refused 26 0
  unfolding engineered_from needed and_then
  value_none z e = rw e

  -- a refusal that isn't of an extraction is what the value's own refusal means
  module _ (n : ℕ) (so : PcfRow → ℤ → Type 0) (x : any (eqb n) (0 ∷ 26 ∷ []) ≡ false) (y : any (eqb n) (0 ∷ readingNumbers) ≡ false)
      (z : any (eqb n) (0 ∷ identifying) ≡ false)
      (exactly : (row : Row) → (of_tables texts).holder (parameter (name_of name)) ≡ some row → (raw : ℤ) → is_raw raw ≡ true
      → (engineered (of_tables texts) (pcf_row row.bytes) raw ≡ refused n 0) ↔ so (pcf_row row.bytes) raw) where
    read_so : engineer_by (of_tables texts) p name k ≡ refused n 0 → ReadSo (of_tables texts) p name k so
    unfolding engineer_by engineered_from
    read_so e = go w.0.value ((of_tables texts).holder (parameter (name_of name))) refl refl
      where
        w : (r : Reading) × (extract_by (of_tables texts) p name k ≡ answer r) × (engineered_from (of_tables texts) (name_of name) r.value ≡ refused n 0)
        w =
            later n 0 (extract_by (of_tables texts) p name k) (λ r. engineered_from (of_tables texts) (name_of name) r.value) (extract_never n x y z) e

        never : (o : Outcome Engineered) → Numbered (26 ∷ []) o → o ≡ refused n 0 → ⊥
        never o h q = never_one n (26 ∷ []) o x h (ap (λ (o : Outcome Engineered). number_in o) q)

        told : {v : Value} → w.0.value ≡ v → engineered_from (of_tables texts) (name_of name) v ≡ refused n 0
        told q = ap (engineered_from (of_tables texts) (name_of name)) (sym q) ∙ w.2

        go : (v : Value) (o : Option Row) → w.0.value ≡ v → (of_tables texts).holder (parameter (name_of name)) ≡ o → ReadSo (of_tables texts) p name k so
        go (part start bytes) o q f = absurd (never (answer (value (part start bytes))) refl (told q))
        go (bits pattern width) o q f = absurd (never (answer (value (bits pattern width))) refl (told q))
        go (number raw) none q f = absurd (never (refused 26 0) refl (sym (value_none raw f) ∙ told q))
        go (number raw) (some row) q f =
            record {
              reading = w.0;
              read = w.1;
              raw = raw;
              is_number = q;
              row = row;
              described = f;
              is = (exactly row f raw (extract_raw w.0 raw w.1 q)).0 (sym (value_is raw row f) ∙ told q);
            }

    so_read : ReadSo (of_tables texts) p name k so → engineer_by (of_tables texts) p name k ≡ refused n 0
    unfolding engineer_by
    so_read u =
        then_is (extract_by (of_tables texts) p name k) (λ r. engineered_from (of_tables texts) (name_of name) r.value) u.reading u.read
        ∙ ap (engineered_from (of_tables texts) (name_of name)) u.is_number ∙ value_is u.raw u.row u.described
        ∙ (exactly u.row u.described u.raw (extract_raw u.reading u.raw u.read u.is_number)).1 u.is

    -- of the call, with tables that fit
    engineer_so : sizes_of texts ≡ fit → (engineer_of texts p name k ≡ refused n 0) ↔ ReadSo (of_tables texts) p name k so
    unfolding engineer_of asking after_sizes
    engineer_so f = rw f (read_so, so_read)

  -- 01: "30 … raw value off an F curve"
  pub engineer_30 : sizes_of texts ≡ fit → (engineer_of texts p name k ≡ refused 30 0) ↔ ReadSo (of_tables texts) p name k (OffItsCurve (of_tables texts))
  engineer_30 = engineer_so 30 (OffItsCurve (of_tables texts)) refl refl refl (engineered_30 texts (name_of name))

  -- 01: "31 … curve result outside −2,147,483,648 to 2,147,483,647"
  pub engineer_31 : sizes_of texts ≡ fit → (engineer_of texts p name k ≡ refused 31 0) ↔ ReadSo (of_tables texts) p name k (OutOfItsRange (of_tables texts))
  engineer_31 = engineer_so 31 (OutOfItsRange (of_tables texts)) refl refl refl (engineered_31 texts (name_of name))

  -- 01: "32 … no text"
  pub engineer_32 : sizes_of texts ≡ fit → (engineer_of texts p name k ≡ refused 32 0) ↔ ReadSo (of_tables texts) p name k (Textless (of_tables texts))
  engineer_32 = engineer_so 32 (Textless (of_tables texts)) refl refl refl (λ row _ raw _. engineered_32 texts (pcf_row row.bytes) raw)
