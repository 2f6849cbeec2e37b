-- Identification is refused with 20 to 25 only, and a raw value of a type that has a width with 20, 27, 28 and 29 only.
use mathlib.Core.Path.{◌≡◌, refl}
use mathlib.Core.Bool.{true, not, ◌&&◌, ◌||◌}
use mathlib.Core.List.{List, [], ◌∷◌}
use mathlib.Core.Option.{Option, none, some}
use Prim.Native.Nat.{ℕ, ◌+◌, ◌*◌, ◌/◌, ◌%◌}
use native.Mathlib.Omega.{arith}
use lib.Dec.{eqb, ltb}
use lib.IntN.{ℤ, pos}
use lib.ListN.{length}
use borrow.Author.Tests.{eqb-true}
use Rattle.laws.specs.Said.{Said, value, refused as refused_with, free}
use Rattle.laws.proofs.Cases.{cond_cases}
use Rattle.fields.specs.Place.{inside}
use Rattle.fields.specs.Field.{is_width, field_at, unsigned_at}
use Rattle.fields.specs.Sign.{complement_of, signed_at}
use Rattle.string_fields.specs.Text.{string_at}
use Rattle.widths.specs.Width.{width_of}
use Rattle.fields.proofs.FieldLaws.{width_yes}
use Rattle.decoding.specs.Records.{pic_row}
use Rattle.rows.specs.declared.records.IdentificationField.{IdentificationField}
use Rattle.rows.specs.declared.records.IdentificationField.TheVariants as field
use Rattle.rows.specs.declared.records.PicRow.{PicRow}
use Rattle.rows.specs.declared.records.PlfRow.{PlfRow}
use Rattle.rows.specs.declared.records.PcfRow.{PcfRow}
use Rattle.headers.specs.Header.{version, type_bit, length_field, flagged, head_of}
use Rattle.key_symbols.specs.declared.FiveNumbers.{FiveNumbers}
use Rattle.outcomes.specs.Outcome.{Outcome, and_then}
use Rattle.outcomes.specs.Values.{Value, number, part}
use Rattle.database.specs.Rows.{Row, Rows}
use Rattle.identifiers.specs.Identifiers.{read_identifier, identifier_at, identifiers_by}
use Rattle.five_numbers.specs.Numbers.{pic_row_of, identifiers_from, five_numbers}
use Rattle.identification.specs.Identification.{chosen, choose_by, identify_headed, identify_by}
use Rattle.headers.specs.declared.Head.{Head}
use Rattle.wire_reals.specs.Reals.{is_real_type, real_value}
use Rattle.raw_values.specs.RawValues.{is_string, TypeWidth, start_of, value_at, packet_part, field_raw, raw_in, raw_of}
use Rattle.raw_values.proofs.RawLaws.{width_wide}
use Rattle.at_verdicts.proofs.NumberLaws.{Numbered, one_then}

-- Identification

-- 01: "20–25"
abbrev pub identifying : List ℕ
identifying = 20 ∷ 21 ∷ 22 ∷ 23 ∷ 24 ∷ 25 ∷ []

pub head_numbers : (p : List ℕ) → Numbered identifying (head_of p)
unfolding head_of
head_numbers p =
    cond_cases (λ (o : Outcome Head). Numbered identifying o) (ltb (length p) 7 || ltb 8192 (length p)) (λ _. refl)
    (λ _. cond_cases (λ (o : Outcome Head). Numbered identifying o) (not (eqb (version p) 0) || not (eqb (type_bit p) 0)) (λ _. refl)
    (λ _. cond_cases (λ (o : Outcome Head). Numbered identifying o) (not (eqb (length_field p + 7) (length p))) (λ _. refl)
    (λ _. cond_cases (λ (o : Outcome Head). Numbered identifying o) (flagged p && ltb (length p) 9) (λ _. refl) (λ _. refl))))

identifier_numbers : (byte : ℕ) (s : Said) → Numbered identifying (read_identifier byte s)
unfolding read_identifier
identifier_numbers byte (value z) = refl
identifier_numbers byte (refused_with n) = refl
identifier_numbers byte free = refl

field_numbers : (p : List ℕ) (f : IdentificationField) → Numbered identifying (identifier_at p f)
unfolding identifier_at
field_numbers p (field.At byte width) = identifier_numbers byte.0 (unsigned_at p (byte.0 * 8) width)
field_numbers p field.Unused = refl

fields_numbers : (p : List ℕ) (row : PicRow) → Numbered identifying (identifiers_by p row)
unfolding identifiers_by
fields_numbers p row =
    one_then identifying (identifier_at p row.pi1) _ (field_numbers p row.pi1) (λ first _.
    one_then identifying (identifier_at p row.pi2) _ (field_numbers p row.pi2) (λ second _. refl))

identifiers_numbers : (p : List ℕ) (o : Option Row) → Numbered identifying (identifiers_from p o)
unfolding identifiers_from
identifiers_numbers p none = refl
identifiers_numbers p (some row) = fields_numbers p (pic_row row.bytes)

chosen_numbers : (n : FiveNumbers) (o : Option Row) → Numbered identifying (chosen n o)
unfolding chosen
chosen_numbers n none = refl
chosen_numbers n (some row) = refl

pub headed_numbers : (rows : Rows) (head : Head) (p : List ℕ) → Numbered identifying (identify_headed rows head p)
unfolding identify_headed five_numbers choose_by
headed_numbers rows head p =
    one_then identifying (five_numbers rows head p) _
    (one_then identifying (identifiers_from p (pic_row_of rows head p)) _ (identifiers_numbers p (pic_row_of rows head p)) (λ pair _. refl))
    (λ n _. chosen_numbers n (rows.holder _))

pub identify_numbers : (rows : Rows) (p : List ℕ) → Numbered identifying (identify_by rows p)
unfolding identify_by
identify_numbers rows p = one_then identifying (head_of p) _ (head_numbers p) (λ head _. headed_numbers rows head p)

-- What is made of a raw value

-- 01: "27, 28, 29", and 20 for a packet over 8,192 bytes
abbrev pub reading : List ℕ
reading = 20 ∷ 27 ∷ 28 ∷ 29 ∷ []

module _ {B : Type 0} (make : Value → Outcome B) (ofNumber : (z : ℤ) → Numbered reading (make (number z))) where
  bits_made : (of : ℤ → Value) → ((z : ℤ) → Numbered reading (make (of z))) → (meant : ℕ → ℤ) (p : List ℕ) (at n : ℕ) → is_width n ≡ true
      → Numbered reading (and_then (value_at at of (field_at meant p at n)) make)
  unfolding field_at value_at and_then
  bits_made of h meant p at n w =
      rw w (cond_cases (λ (s : Said). Numbered reading (and_then (value_at at of s) make)) (inside p at n) (λ _. h (meant _)) (λ _. refl))

  string_made : (p : List ℕ) (at n : ℕ) → (n ≡ 0 → ⊥) → ((start bytes : ℕ) → Numbered reading (make (part start bytes)))
      → Numbered reading (and_then (value_at at (packet_part at n) (string_at p at n)) make)
  unfolding string_at value_at and_then
  string_made p at n h ofPart =
      cond_cases (λ (s : Said). Numbered reading (and_then (value_at at (packet_part at n) s) make)) (eqb n 0)
      (λ t. absurd (h (eqb-true n 0 t)))
      (λ _. cond_cases (λ (s : Said). Numbered reading (and_then (value_at at (packet_part at n) s) make)) (inside p at (n * 8))
      (λ _. cond_cases (λ (s : Said). Numbered reading (and_then (value_at at (packet_part at n) s) make)) (eqb (at % 8) 0) (λ _. ofPart (at / 8) n) (λ _. refl))
      (λ _. refl))

  module _ (ptc pfc : ℕ) (ofPart : is_string ptc ≡ true → (start bytes : ℕ) → Numbered reading (make (part start bytes)))
      (ofReal : is_real_type ptc ≡ true → (z : ℤ) → Numbered reading (make (real_value pfc z))) where
    field_made : (p : List ℕ) (n at : ℕ) → TypeWidth ptc n → Numbered reading (and_then (field_raw p ptc pfc n at) make)
    unfolding field_raw signed_at unsigned_at
    field_made p n at w =
        cond_cases (λ (o : Outcome Value). Numbered reading (and_then o make)) (is_string ptc)
        (λ t. string_made p at (n / 8) (λ z. omega (arith, w.string t)) (ofPart t))
        (λ f. let y : is_width n ≡ true = width_yes n w.some (w.other f) in
        cond_cases (λ (o : Outcome Value). Numbered reading (and_then o make)) (is_real_type ptc)
        (λ r. bits_made (real_value pfc) (ofReal r) pos p at n y)
        (λ _. cond_cases (λ (s : Said). Numbered reading (and_then (value_at at number s) make)) (eqb ptc 4)
        (λ _. bits_made number ofNumber (complement_of n) p at n y)
        (λ _. bits_made number ofNumber pos p at n y)))

    in_made : (p : List ℕ) (plf : PlfRow) (k n : ℕ) → TypeWidth ptc n → Numbered reading (and_then (raw_in p plf ptc pfc k (some n)) make)
    unfolding raw_in and_then
    in_made p plf k n w =
        cond_cases (λ (o : Outcome Value). Numbered reading (and_then o make)) (ltb k plf.nbocc) (λ _. field_made p n (start_of plf k) w) (λ _. refl)

  pub raw_made : (p : List ℕ) (plf : PlfRow) (pcf : PcfRow) (k n : ℕ) → width_of pcf.ptc pcf.pfc ≡ some n
      → (is_string pcf.ptc ≡ true → (start bytes : ℕ) → Numbered reading (make (part start bytes)))
      → (is_real_type pcf.ptc ≡ true → (z : ℤ) → Numbered reading (make (real_value pcf.pfc z))) → Numbered reading (and_then (raw_of p plf pcf k) make)
  unfolding raw_of and_then
  raw_made p plf pcf k n e ofPart ofReal =
      cond_cases (λ (o : Outcome Value). Numbered reading (and_then o make)) (ltb 8192 (length p)) (λ _. refl)
      (λ _. rw e (in_made pcf.ptc pcf.pfc ofPart ofReal p plf k n (width_wide pcf.ptc pcf.pfc n e)))
