-- The places of identification, of readings and of engineering values are small, by rows that are in their ranges.
use mathlib.Core.Path.{◌≡◌, refl, ap, subst}
use mathlib.Core.Bool.{not, ◌&&◌, ◌||◌}
use mathlib.Core.List.{List}
use mathlib.Core.Option.{Option, none, some}
use Rattle.std.specs.Prelude.{Some, None}
use Rattle.std.specs.Prelude as rust
use Prim.Native.Nat.{ℕ, ◌+◌, ◌^◌, ◌≤◌, ◌<◌, ◌*◌}
use native.Mathlib.Nat.{mul-le-mul, div-le_self}
use native.Mathlib.Omega.{arith}
use lib.Dec.{eqb, ltb}
use lib.IntN.{ℤ}
use lib.ListN.{length}
use lib.Signed.{lt_z}
use borrow.Author.Tests.{ltb-true}
use Rattle.laws.specs.Said.{Said, value, refused as refused_with, free}
use Rattle.laws.proofs.Cases.{cond_cases}
use Rattle.name_bytes.specs.declared.Name.{Name}
use Rattle.fields.specs.Field.{unsigned_at}
use Rattle.widths.specs.Width.{width_of}
use Rattle.decoding.specs.Records.{pic_row, plf_row}
use Rattle.rows.specs.declared.records.IdentificationField.{IdentificationField}
use Rattle.rows.specs.declared.records.IdentificationField.TheVariants as field
use Rattle.rows.specs.declared.records.OptionalCurve.{OptionalCurve}
use Rattle.rows.specs.declared.records.PicRow.{PicRow}
use Rattle.rows.specs.declared.records.PlfRow.{PlfRow}
use Rattle.rows.specs.declared.records.PcfRow.{PcfRow}
use Rattle.rows.specs.declared.letters.Category.{Category}
use Rattle.rows.specs.declared.letters.Category.TheVariants as category
use Rattle.headers.specs.Header.{version, type_bit, length_field, flagged, head_of}
use Rattle.verdicts.specs.Key.{location, parameter}
use Rattle.key_symbols.specs.declared.FiveNumbers.{FiveNumbers}
use Rattle.outcomes.specs.Outcome.{Outcome, answer, and_then}
use Rattle.outcomes.specs.Values.{Value}
use Rattle.database.specs.Rows.{Row, Rows}
use Rattle.identifiers.specs.Identifiers.{read_identifier, identifier_at, identifiers_by}
use Rattle.five_numbers.specs.Numbers.{type_of, subtype_of, or_other, pic_row_of, identifiers_from, five_numbers}
use Rattle.identification.specs.Identification.{chosen, choose_by, identify_headed, identify_by}
use Rattle.headers.specs.declared.Head.{Head}
use Rattle.wire_reals.specs.Reals.{is_real_type}
use Rattle.raw_values.specs.RawValues.{start_of, is_string, value_at, field_raw, raw_in, raw_of}
use Rattle.parameters.specs.Located.{Located, by_lines, needed, located}
use Rattle.readings.specs.Readings.{with_validity, reading_with, reading}
use Rattle.curve_points.specs.Curves.{Curve}
use Rattle.curve_values.specs.Along.{outcome_of, along}
use Rattle.curve_values.specs.Scale.{Scale, as_read, on_curve, scale_of, on_scale}
use Rattle.texts.specs.Texts.{Text, to_of, altxt_of, text_in, text_for}
use Rattle.polynomials.specs.declared.Polynomial.{Polynomial}
use Rattle.polynomial_curves.specs.Polynomials.{polynomial_for}
use Rattle.engineering.specs.Engineering.{Engineered, as_value, as_text, by_polynomial, numeric_value, by_category, engineered}
use Rattle.refusal_places.specs.Small.{Small}
use Rattle.refusal_places.proofs.SmallLaws.{small_answer, no_place, small_place, small_then}
use Rattle.refusal_places.proofs.RowRanges.{PlfRanges, byte_of, PicRanges, InRanges}

-- Identification

identifier_small : (byte : ℕ) (s : Said) → byte ≤ 8191 → Small (read_identifier byte s)
unfolding read_identifier
identifier_small byte (value z) h = small_answer _
identifier_small byte (refused_with n) h = small_place 24 (omega arith)
identifier_small byte free h = small_answer _

field_small : (p : List ℕ) (field : IdentificationField) → byte_of field ≤ 8191 → Small (identifier_at p field)
unfolding identifier_at
field_small p (field.At byte width) h = identifier_small byte.0 (unsigned_at p (byte.0 * 8) width) h
field_small p field.Unused h = small_answer 0

fields_small : (p : List ℕ) (row : PicRow) → PicRanges row → Small (identifiers_by p row)
unfolding identifiers_by
fields_small p row r =
    small_then (identifier_at p row.pi1) _ (field_small p row.pi1 r.first) (λ first _.
    small_then (identifier_at p row.pi2) _ (field_small p row.pi2 r.second) (λ second _. small_answer _))

abbrev RangedPic : Option Row → Type 0
RangedPic o = (row : Row) → o ≡ some row → PicRanges (pic_row row.bytes)

or_ranged : (o other : Option Row) → RangedPic o → RangedPic other → RangedPic (or_other o other)
unfolding or_other
or_ranged none other f g = g
or_ranged (some row) other f g = f

identifiers_small : (p : List ℕ) (o : Option Row) → RangedPic o → Small (identifiers_from p o)
unfolding identifiers_from
identifiers_small p none f = small_answer _
identifiers_small p (some row) f = fields_small p (pic_row row.bytes) (f row refl)

chosen_small : (n : FiveNumbers) (o : Option Row) → Small (chosen n o)
unfolding chosen
chosen_small n none = no_place 25
chosen_small n (some row) = small_answer _

pub head_small : (p : List ℕ) → Small (head_of p)
unfolding head_of
head_small p =
    cond_cases (λ (o : Outcome Head). Small o) (ltb (length p) 7 || ltb 8192 (length p)) (λ _. no_place 20)
    (λ _. cond_cases (λ (o : Outcome Head). Small o) (not (eqb (version p) 0) || not (eqb (type_bit p) 0)) (λ _. no_place 21)
    (λ _. cond_cases (λ (o : Outcome Head). Small o) (not (eqb (length_field p + 7) (length p))) (λ _. no_place 22)
    (λ _. cond_cases (λ (o : Outcome Head). Small o) (flagged p && ltb (length p) 9) (λ _. no_place 23) (λ _. small_answer _))))

-- Readings

value_small : (at : ℕ) (make : ℤ → Value) (s : Said) → at < 2 ^ 32 → Small (value_at at make s)
unfolding value_at
value_small at make (value z) h = small_answer _
value_small at make (refused_with n) h = small_place n (omega (arith, div-le_self at 8))
value_small at make free h = no_place 26

raw_field_small : (p : List ℕ) (ptc pfc n at : ℕ) → at < 2 ^ 32 → Small (field_raw p ptc pfc n at)
unfolding field_raw
raw_field_small p ptc pfc n at h =
    cond_cases (λ (o : Outcome Value). Small o) (is_string ptc) (λ _. value_small at _ _ h)
    (λ _. cond_cases (λ (o : Outcome Value). Small o) (is_real_type ptc) (λ _. value_small at _ _ h) (λ _. value_small at _ _ h))

start_small : (row : PlfRow) (k : ℕ) → PlfRanges row → k < row.nbocc → start_of row k < 2 ^ 32
unfolding start_of
start_small row k r h =
    let b : k ≤ 9998 = omega (arith, r.nbocc) in
    omega (arith, r.offby, r.offbi, mul-le-mul {n₁ = k} {m₁ = row.lgocc.0} {n₂ = 9998} {m₂ = 32767} b r.lgocc)

raw_in_small : (p : List ℕ) (plf : PlfRow) (ptc pfc k : ℕ) (width : Option ℕ) → PlfRanges plf → Small (raw_in p plf ptc pfc k width)
unfolding raw_in
raw_in_small p plf ptc pfc k none r = no_place 26
raw_in_small p plf ptc pfc k (some n) r =
    cond_cases (λ (o : Outcome Value). Small o) (ltb k plf.nbocc)
    (λ t. raw_field_small p ptc pfc n (start_of plf k) (start_small plf k r (ltb-true _ _ t)))
    (λ _. no_place 27)

pub raw_small : (p : List ℕ) (plf : PlfRow) (pcf : PcfRow) (k : ℕ) → PlfRanges plf → Small (raw_of p plf pcf k)
unfolding raw_of
raw_small p plf pcf k r =
    cond_cases (λ (o : Outcome Value). Small o) (ltb 8192 (length p)) (λ _. no_place 20)
    (λ _. raw_in_small p plf pcf.ptc pcf.pfc k (width_of pcf.ptc pcf.pfc) r)

pub needed_small : (o : Option Row) → Small (needed o)
unfolding needed
needed_small none = no_place 26
needed_small (some row) = small_answer row

-- the plf row of a parameter is the one that was found
both_ranged : (l c : Option Row) (at : Located) → ((row : Row) → l ≡ some row → PlfRanges (plf_row row.bytes))
    → and_then (needed l) (λ plf. and_then (needed c) (λ pcf. answer (by_lines plf.bytes pcf.bytes))) ≡ answer at → PlfRanges at.plf
unfolding and_then needed by_lines
both_ranged none c at f e = absurd (let z : ◌≡◌ {A = ℕ} 0 1 = cc in omega arith)
both_ranged (some l) none at f e = absurd (let z : ◌≡◌ {A = ℕ} 0 1 = cc in omega arith)
both_ranged (some l) (some c) at f e =
    let q : by_lines l.bytes c.bytes ≡ at = cc in
    subst PlfRanges (ap (λ (x : Located). x.plf) q) (f l refl)

-- Engineering values: no refusal of their own has a place

curve_small : (s : Said) → Small (outcome_of s)
unfolding outcome_of
curve_small (value z) = small_answer z
curve_small (refused_with number) = no_place number
curve_small free = no_place 30

along_small : (c : Option Curve) (raw : ℤ) → Small (along c raw)
unfolding along
along_small none raw = no_place 30
along_small (some c) raw = curve_small _

pub scale_small : (s : Scale) (raw : ℤ) → Small (on_scale s raw)
unfolding on_scale
scale_small as_read raw = small_answer raw
scale_small (on_curve c) raw = along_small c raw

text_small : (o : Option Row) (raw : ℤ) → Small (text_in o raw)
unfolding text_in
text_small none raw = no_place 32
text_small (some row) raw = cond_cases (λ (o : Outcome Text). Small o) (lt_z (to_of row) raw) (λ _. no_place 32) (λ _. small_answer (altxt_of row))

-- a polynomial is answered
polynomial_small : (f : rust.Option Polynomial) (raw : ℤ) (other : Outcome Engineered) → Small other → Small (by_polynomial f raw other)
unfolding by_polynomial
polynomial_small (Some p) raw other h = small_answer _
polynomial_small None raw other h = h

category_small : (rows : Rows) (c : Category) (curtx : OptionalCurve) (raw : ℤ) → Small (by_category rows c curtx raw)
unfolding by_category numeric_value as_value as_text text_for
category_small rows category.Numeric curtx raw =
    polynomial_small (polynomial_for rows curtx) raw _
    (small_then (on_scale (scale_of rows curtx) raw) _ (scale_small (scale_of rows curtx) raw) (λ z _. small_answer _))
category_small rows category.Status curtx raw = small_then (text_for rows curtx.name raw) _ (text_small _ raw) (λ t _. small_answer _)
category_small rows category.Text curtx raw = small_answer _

pub engineered_small : (rows : Rows) (row : PcfRow) (raw : ℤ) → Small (engineered rows row raw)
unfolding engineered
engineered_small rows row raw = category_small rows row.categ row.curtx raw

-- By rows in their ranges

module _ (rows : Rows) (ranges : InRanges rows) (p : List ℕ) where
  pic_ranged : (head : Head) → RangedPic (pic_row_of rows head p)
  unfolding pic_row_of
  pic_ranged head =
      cond_cases RangedPic head.flagged
      (λ _. or_ranged _ _ (ranges.pic (type_of head p) (subtype_of head p) (Some head.apid)) (ranges.pic (type_of head p) (subtype_of head p) None))
      (λ _ row e. absurd (let z : ◌≡◌ {A = ℕ} 0 1 = cc in omega arith))

  pub five_small : (head : Head) → Small (five_numbers rows head p)
  unfolding five_numbers
  five_small head =
      small_then (identifiers_from p (pic_row_of rows head p)) _ (identifiers_small p (pic_row_of rows head p) (pic_ranged head)) (λ pair _. small_answer _)

  pub headed_small : (head : Head) → Small (identify_headed rows head p)
  unfolding identify_headed choose_by
  headed_small head = small_then (five_numbers rows head p) _ (five_small head) (λ n _. chosen_small n (rows.holder _))

  pub identify_small : Small (identify_by rows p)
  unfolding identify_by
  identify_small = small_then (head_of p) _ (head_small p) (λ head _. headed_small head)

  pub located_small : (spid : ℕ) (name : Name) → Small (located rows spid name)
  unfolding located
  located_small spid name =
      small_then (needed (rows.holder (location name spid))) _ (needed_small _) (λ plf _.
      small_then (needed (rows.holder (parameter name))) _ (needed_small _) (λ pcf _. small_answer _))

  pub located_ranged : (spid : ℕ) (name : Name) (at : Located) → located rows spid name ≡ answer at → PlfRanges at.plf
  unfolding located
  located_ranged spid name at e = both_ranged (rows.holder (location name spid)) (rows.holder (parameter name)) at (ranges.plf name spid) e

  pub reading_small : (spid : ℕ) (name : Name) (k : ℕ) → Small (reading rows p spid name k)
  unfolding reading reading_with with_validity
  reading_small spid name k =
      small_then (located rows spid name) _ (located_small spid name) (λ at e.
      small_then (raw_of p at.plf at.pcf k) _ (raw_small p at.plf at.pcf k (located_ranged spid name at e)) (λ v _. small_answer _))
