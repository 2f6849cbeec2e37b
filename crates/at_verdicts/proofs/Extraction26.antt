-- Refusal 26 of an extraction means exactly what 01 says, "no good plf row for name and SPID".
use mathlib.Core.Path.{◌≡◌, refl, sym, ap, subst, ◌∙◌}
use mathlib.Core.Logic.{◌↔◌}
use mathlib.Core.List.{List}
use mathlib.Core.Option.{Option, none, some}
use Prim.Native.Nat.{ℕ}
use Rattle.name_bytes.specs.Names.{name_of}
use Rattle.name_bytes.specs.declared.Name.{Name}
use Rattle.tables.specs.Sizes.{fit, sizes_of}
use Rattle.verdicts.specs.Key.{location, parameter}
use Rattle.outcomes.specs.Outcome.{Outcome, answer, refused, and_then}
use Rattle.database.specs.Rows.{Row, Rows}
use Rattle.database.specs.GoodRows.{of_tables}
use Rattle.identification.specs.Identification.{identify_by}
use Rattle.raw_values.specs.RawValues.{raw_of}
use Rattle.parameters.specs.Located.{by_lines, needed, located}
use Rattle.readings.specs.Readings.{Reading, with_validity, reading_with, validity, reading}
use Rattle.calls.specs.Tables.{after_sizes, asking}
use Rattle.extraction.specs.Extraction.{extract_by}
use Rattle.calls.specs.Calls.{extract_of}
use Rattle.at_verdicts.specs.Unlocated.{Unlocated}
use Rattle.at_verdicts.proofs.NumberLaws.{number_in, Numbered, never_one, then_is, then_refused, later}
use Rattle.at_verdicts.proofs.PacketNumbers.{identifying, identify_numbers, reading as readingNumbers, raw_made}
use Rattle.at_verdicts.proofs.ParameterRows.{plf_parameter}

-- the rows of a parameter, where both are found
pub located_is : (rows : Rows) (spid : ℕ) (name : Name) (l c : Row) → rows.holder (location name spid) ≡ some l → rows.holder (parameter name) ≡ some c
    → located rows spid name ≡ answer (by_lines l.bytes c.bytes)
unfolding located needed and_then
located_is rows spid name l c e f = rw (e, f)

pub located_none : (rows : Rows) (spid : ℕ) (name : Name) → rows.holder (location name spid) ≡ none → located rows spid name ≡ refused 26 0
unfolding located needed and_then
located_none rows spid name e = rw e

module _ (texts : List (List ℕ)) (p : List ℕ) (spid : ℕ) (name : Name) (k : ℕ) where
  -- where the plf row is found, it is refused with 20, 27, 28 or 29 only
  pub reading_found : (l : Row) → (of_tables texts).holder (location name spid) ≡ some l → Numbered readingNumbers (reading (of_tables texts) p spid name k)
  unfolding reading reading_with with_validity by_lines
  reading_found l e =
      let d = plf_parameter texts name spid l e in
      let at = by_lines l.bytes d.row.bytes in
      let make = with_validity (validity (of_tables texts) p spid at.pcf) in
      let same = then_is (located (of_tables texts) spid name)
      (λ at. and_then (raw_of p at.plf at.pcf k) (with_validity (validity (of_tables texts) p spid at.pcf))) at
      (located_is (of_tables texts) spid name l d.row e d.found) in
      subst (λ (o : Outcome Reading). Numbered readingNumbers o) (sym same)
      (raw_made make (λ z. refl) p at.plf at.pcf k d.width d.wide (λ _ start bytes. refl) (λ _ z. refl))

  reading_located : number_in (reading (of_tables texts) p spid name k) ≡ 26 → (of_tables texts).holder (location name spid) ≡ none
  reading_located q = go ((of_tables texts).holder (location name spid)) refl
    where
      go : (o : Option Row) → (of_tables texts).holder (location name spid) ≡ o → o ≡ none
      go none e = refl
      go (some l) e = absurd (never_one 26 readingNumbers (reading (of_tables texts) p spid name k) refl (reading_found l e) q)

  pub reading_none : (of_tables texts).holder (location name spid) ≡ none → reading (of_tables texts) p spid name k ≡ refused 26 0
  unfolding reading reading_with
  reading_none e = then_refused (located (of_tables texts) spid name) _ 26 0 (located_none (of_tables texts) spid name e)

  -- 26 of a reading
  pub reading_26 : (reading (of_tables texts) p spid name k ≡ refused 26 0) ↔ ((of_tables texts).holder (location name spid) ≡ none)
  reading_26 = (λ e. reading_located (ap (λ (o : Outcome Reading). number_in o) e), reading_none)

module _ (texts : List (List ℕ)) (p name : List ℕ) (k : ℕ) where
  unlocated : extract_by (of_tables texts) p name k ≡ refused 26 0 → Unlocated (of_tables texts) p name
  unfolding extract_by
  unlocated e =
      let w = later 26 0 (identify_by (of_tables texts) p) (λ id. reading (of_tables texts) p id.spid (name_of name) k)
      (never_one 26 identifying (identify_by (of_tables texts) p) refl (identify_numbers (of_tables texts) p)) e in
      record { identity = w.0; identified = w.1; no_plf_row = (reading_26 texts p w.0.spid (name_of name) k).0 w.2 }

  not_located : Unlocated (of_tables texts) p name → extract_by (of_tables texts) p name k ≡ refused 26 0
  unfolding extract_by
  not_located u =
      then_is (identify_by (of_tables texts) p) (λ id. reading (of_tables texts) p id.spid (name_of name) k) u.identity u.identified
      ∙ reading_none texts p u.identity.spid (name_of name) k u.no_plf_row

  -- 26 of an extraction says just that. By `holder_none` no plf row with verdict 0 then has the name and the SPID
  pub extraction_26 : (extract_by (of_tables texts) p name k ≡ refused 26 0) ↔ Unlocated (of_tables texts) p name
  extraction_26 = (unlocated, not_located)

  -- and of the call, with tables that fit
  pub extract_26 : sizes_of texts ≡ fit → (extract_of texts p name k ≡ refused 26 0) ↔ Unlocated (of_tables texts) p name
  unfolding extract_of asking after_sizes
  extract_26 f = rw f extraction_26
