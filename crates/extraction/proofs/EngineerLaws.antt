-- An engineering value by the two rows of the parameter, its validity not asked.
use mathlib.Core.Path.{◌≡◌, refl, sym, ap, ◌∙◌}
use mathlib.Core.Bool.{Bool, true, false}
use mathlib.Core.List.{List}
use mathlib.Core.Option.{Option, none, some}
use Rattle.std.specs.Prelude as rust
use Rattle.std.specs.Prelude.{Result, Ok, Err}
use Prim.Native.Nat.{ℕ}
use lib.IntN.{ℤ}
use Rattle.name_bytes.specs.Names.{name_of}
use Rattle.name_bytes.specs.declared.Name.{Name}
use Rattle.decoding.specs.Records.{plf_row, pcf_row}
use Rattle.rows.specs.declared.records.PcfRow.{PcfRow}
use Rattle.verdicts.specs.Key.{location, parameter}
use Rattle.units.specs.declared.ByteOffset.{ByteOffset}
use Rattle.outcomes.specs.Outcome.{Outcome, refused, answer, and_then}
use Rattle.outcomes.specs.Values.{Value, number, part, bits, value_of}
use Rattle.outcomes.specs.Refusals.{refused_by}
use Rattle.outcomes.specs.declared.Refusal.{Refusal}
use Rattle.outcomes.specs.declared.Value as code
use Rattle.outcomes.specs.declared.Value.TheVariants as value
use Rattle.outcomes.proofs.OutcomeLaws.{told, then_answer, then_refused}
use Rattle.database.specs.Rows.{Row, Rows}
use Rattle.database.specs.Arrays.{row_at}
use Rattle.identification.specs.declared.Identity as found
use Rattle.identification.specs.Identification.{Identity, identify_by, said_identified}
use Rattle.raw_values.specs.RawValues.{raw_of}
use Rattle.parameters.specs.Located.{by_lines, needed, located, at_places}
use Rattle.parameters.specs.declared.Places.{Places}
use Rattle.parameters.proofs.LocatedLaws.{at_found, at_missing}
use Rattle.readings.specs.Readings.{with_validity, validity, reading_with, reading}
use Rattle.engineering.specs.Engineering.{Engineered, engineered, said_engineered}
use Rattle.engineering.specs.declared.engineer.Engineered as answered
use Rattle.engineering.specs.declared.engineer.Engineered.TheVariants as is
use Rattle.extraction.specs.Extraction.{extract_by}
use Rattle.extraction.specs.Engineering.{engineered_from, engineer_by}
use Rattle.extraction.specs.Located.{engineered_by, engineered_in}

-- by the kind of the raw value
module _ (rows : Rows) (pcf : PcfRow) {v : code.Value} where
  pub value_number : (z : ℤ) → v ≡ value.Number z → {w : ℤ} {o : Outcome Engineered} → o ≡ engineered rows pcf w → w ≡ z
      → o ≡ engineered_by rows pcf (value_of v)
  unfolding value_of engineered_by
  value_number z e h q = rw e (rw q at h)

  pub value_part : (from : ByteOffset) (bytes : ℕ) → v ≡ value.Part from bytes
      → said_engineered (Ok (is.Is (value.Part from bytes))) ≡ engineered_by rows pcf (value_of v)
  unfolding value_of engineered_by said_engineered
  value_part from bytes e = rw e

  pub value_bits : (pattern width : ℕ) → v ≡ value.Bits pattern width
      → said_engineered (Ok (is.Is (value.Bits pattern width))) ≡ engineered_by rows pcf (value_of v)
  unfolding value_of engineered_by said_engineered
  value_bits pattern width e = rw e

-- by the places of the parameter's rows
module _ (rows : Rows) (p : List ℕ) (spid : ℕ) (name : Name) (k : ℕ) (texts : List (List ℕ)) (columns : List ℕ) (at : rust.Option Places)
    (is' : at_places texts columns at ≡ located rows spid name) where
  pub engineered_nowhere : at ≡ rust.None → refused 26 0 ≡ engineered_in rows p spid name k
  unfolding engineered_in and_then
  engineered_nowhere f = rw (← is', at_missing texts columns at f)

  pub engineered_at : {places : Places} → at ≡ rust.Some places → {raw : Outcome Value} {pcf : PcfRow} {o : Outcome Engineered}
      → pcf ≡ pcf_row (row_at texts columns places.pcf).bytes → raw ≡ raw_of p (plf_row (row_at texts columns places.plf).bytes) pcf k
      → o ≡ and_then raw (engineered_by rows pcf) → o ≡ engineered_in rows p spid name k
  unfolding engineered_in and_then by_lines
  engineered_at t c r h = rw (← is', at_found texts columns at t, ← c, ← r) h

-- the pcf row that a raw value is engineered by is the one that located it
module _ (rows : Rows) (name : Name) (valid : Bool) {pcf : Row} (e : rows.holder (parameter name) ≡ some pcf) where
  from_row : (raw : Outcome Value)
      → and_then (and_then raw (with_validity valid)) (λ r. engineered_from rows name r.value) ≡ and_then raw (engineered_by rows (pcf_row pcf.bytes))
  unfolding and_then with_validity engineered_from engineered_by needed
  from_row (refused n place) = refl
  from_row (answer (number z)) = rw e
  from_row (answer (part start bytes)) = refl
  from_row (answer (bits pattern width)) = refl

module _ (rows : Rows) (p : List ℕ) (spid : ℕ) (name : Name) (k : ℕ) where
  read_located : and_then (reading rows p spid name k) (λ r. engineered_from rows name r.value) ≡ engineered_in rows p spid name k
  unfolding reading reading_with engineered_in located needed and_then by_lines
  read_located = by (rows.holder (location name spid)) (rows.holder (parameter name)) refl refl
    where
      by : (a b : Option Row) → rows.holder (location name spid) ≡ a → rows.holder (parameter name) ≡ b
          → and_then (reading rows p spid name k) (λ r. engineered_from rows name r.value) ≡ engineered_in rows p spid name k
      by none b f e = rw f
      by (some plf) none f e = rw (f, e)
      by (some plf) (some pcf) f e =
          let kind : PcfRow = pcf_row pcf.bytes in
          rw (f, e) (from_row rows name (validity rows p spid kind) e (raw_of p (plf_row plf.bytes) kind k))

-- 01's engineering value is that by the two rows
module _ (rows : Rows) (p name : List ℕ) (k : ℕ) where
  identified_then : (o : Outcome Identity)
      → and_then (and_then o (λ id. reading rows p id.spid (name_of name) k)) (λ r. engineered_from rows (name_of name) r.value)
      ≡ and_then o (λ id. engineered_in rows p id.spid (name_of name) k)
  unfolding and_then
  identified_then (refused n place) = refl
  identified_then (answer id) = read_located rows p id.spid (name_of name) k

  pub engineer_located : engineer_by rows p name k ≡ and_then (identify_by rows p) (λ id. engineered_in rows p id.spid (name_of name) k)
  unfolding engineer_by extract_by
  engineer_located = identified_then (identify_by rows p)

  module _ {i : Result found.Identity Refusal} (e : said_identified i ≡ identify_by rows p) where
    pub engineer_is : (id : found.Identity) → i ≡ Ok id → {m : Name} → m ≡ name_of name
        → {o : Outcome Engineered} → o ≡ engineered_in rows p id.spid.0 m k → o ≡ engineer_by rows p name k
    unfolding said_identified
    engineer_is id s q h =
        then_answer (λ id. engineered_in rows p id.spid (name_of name) k) (told said_identified e s) (rw q at h) ∙ sym engineer_located

    pub engineer_refused : (refusal : Refusal) → i ≡ Err refusal → {r : Result answered.Engineered Refusal} → r ≡ Err refusal
        → said_engineered r ≡ engineer_by rows p name k
    unfolding said_identified said_engineered
    engineer_refused refusal s t =
        ap said_engineered t
        ∙ then_refused (λ id. engineered_in rows p id.spid (name_of name) k) refusal (told said_identified e s) ∙ sym engineer_located
