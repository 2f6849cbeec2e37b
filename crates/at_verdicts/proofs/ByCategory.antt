-- Refusals 30 and 31 of an engineering value mean exactly what 01 says,
-- "raw value off an F curve" and "curve result outside …".
use mathlib.Core.Path.{◌≡◌, refl, sym, ap, subst, ◌∙◌}
use mathlib.Core.Logic.{◌↔◌}
use mathlib.Core.Bool.{Bool, true, false, cond}
use mathlib.Core.List.Memᴰ
use mathlib.Core.List.{List, [], ◌∷◌, Memᴰ}
use mathlib.Core.Option.{Option, none, some}
use Rattle.std.specs.Prelude.{Some, None}
use Rattle.std.specs.Prelude as rust
use Prim.Native.Nat.{ℕ}
use lib.Dec.{eqb}
use lib.IntN.{ℤ}
use lib.Signed.{lt_z}
use Rattle.laws.specs.Lists.{any}
use Rattle.laws.proofs.Cases.{bool_cases, cond_cases, false_of}
use Rattle.name_bytes.specs.declared.CurveName.{CurveName}
use Rattle.name_bytes.specs.declared.Name.{Name}
use Rattle.schemas.specs.declared.Table.{Table}
use Rattle.schemas.specs.declared.Table.TheVariants.{Pcf}
use Rattle.decoding.specs.Records.{pcf_row, mcf_row}
use Rattle.rows.specs.declared.letters.Category.{Category}
use Rattle.rows.specs.declared.letters.Category.TheVariants.{Numeric, Status, Text}
use Rattle.rows.specs.declared.records.OptionalCurve.{OptionalCurve}
use Rattle.rows.specs.declared.records.PcfRow.{PcfRow}
use Rattle.curves.specs.Line.{is_raw}
use Rattle.verdicts.specs.Key.{parameter, curve}
use Rattle.verdicts.specs.Facts.{any_row, whole, itself, Naming, facts_of, pcf_facts}
use Rattle.outcomes.specs.Outcome.{Outcome, answer, refused, and_then}
use Rattle.outcomes.specs.Values.{number}
use Rattle.verdicts.proofs.OwnerLaws.{owners_of}
use Rattle.database.specs.Rows.{Row, Rows}
use Rattle.database.specs.GoodRows.{of_tables}
use Rattle.database.specs.Kinds.{is_polynomial}
use Rattle.curve_points.specs.Curves.{Curve, curve_ends, curve_by, curve_of}
use Rattle.curve_values.specs.Along.{along}
use Rattle.curve_values.specs.OffCurve.{is_off_curve}
use Rattle.curve_values.specs.Scale.{scale_of, on_scale}
use Rattle.polynomials.specs.Polynomial.{polynomial_at}
use Rattle.polynomials.specs.declared.Polynomial.{Polynomial}
use Rattle.polynomial_curves.specs.Polynomials.{polynomial_in, polynomial_for}
use Rattle.texts.specs.Texts as ranges
use Rattle.engineering.specs.Engineering.{Engineered, value, double, as_value, as_text, by_polynomial, numeric_value, by_category, engineered}
use Rattle.engineering.proofs.EngineeringLaws.{polynomial_answered, polynomial_never_refused}
use Rattle.at_verdicts.specs.OutOfRange.{is_out_of_range}
use Rattle.at_verdicts.specs.OffCurve.{ByItsCurve, OffItsCurve, OutOfItsRange}
use Rattle.at_verdicts.proofs.NumberLaws.{number_in, Numbered, never_one, one_then, then_refused, first_only}
use Rattle.at_verdicts.proofs.NamedRows.{Named, none≢some, found_good, found_holds, named_row}
use Rattle.at_verdicts.proofs.ParameterRows.{held_by}
use Rattle.at_verdicts.proofs.CurveRange.{along_numbers}
use Rattle.at_verdicts.proofs.CurveRefusal.{good_curve, curve_is, curve_30, curve_31}

-- By category

module _ (rows : Rows) (r : PcfRow) (raw : ℤ) where
  pub along_curve : r.categ ≡ Numeric → r.curtx.given ≡ true → polynomial_for rows r.curtx ≡ None
      → engineered rows r raw ≡ and_then (along (curve_of rows r.curtx.name) raw) as_value
  unfolding engineered by_category numeric_value by_polynomial scale_of on_scale
  along_curve c g n = rw (c, n, g)

  as_read : r.categ ≡ Numeric → r.curtx.given ≡ false → engineered rows r raw ≡ answer (value (number raw))
  unfolding engineered by_category numeric_value by_polynomial polynomial_for scale_of on_scale as_value and_then
  as_read c g = rw (c, g)

  -- N is refused with 30 and 31 only
  pub numeric_numbers : (numbers : List ℕ) → any (eqb 30) (0 ∷ numbers) ≡ true → any (eqb 31) (0 ∷ numbers) ≡ true → r.categ ≡ Numeric
      → Numbered numbers (engineered rows r raw)
  unfolding as_value
  numeric_numbers numbers n30 n31 c = go (polynomial_for rows r.curtx) r.curtx.given refl refl
    where
      go : (f : rust.Option Polynomial) (given : Bool) → polynomial_for rows r.curtx ≡ f → r.curtx.given ≡ given → Numbered numbers (engineered rows r raw)
      go (Some p) given n g = rw (polynomial_answered rows r p c n raw)
      go None true n g =
          subst (Numbered numbers) (sym (along_curve c g n))
          (one_then numbers (along (curve_of rows r.curtx.name) raw) as_value
          (along_numbers numbers n30 n31 (curve_of rows r.curtx.name) raw) (λ z _. refl))
      go None false n g = rw (as_read c g)

  pub by_text : r.categ ≡ Status → engineered rows r raw ≡ and_then (ranges.text_for rows r.curtx.name raw) as_text
  unfolding engineered by_category
  by_text c = rw c

  pub as_string : r.categ ≡ Text → engineered rows r raw ≡ answer (value (number raw))
  unfolding engineered by_category as_value
  as_string c = rw c

-- a text is refused with 32 only
module _ (numbers : List ℕ) (n32 : any (eqb 32) (0 ∷ numbers) ≡ true) where
  text_numbers : (o : Option Row) (raw : ℤ) → Numbered numbers (ranges.text_in o raw)
  unfolding ranges.text_in
  text_numbers none raw = n32
  text_numbers (some row) raw = cond_cases (λ (o : Outcome ranges.Text). Numbered numbers o) (lt_z (ranges.to_of row) raw) (λ _. n32) (λ _. refl)

  pub for_numbers : (rows : Rows) (r : PcfRow) (raw : ℤ) → Numbered numbers (and_then (ranges.text_for rows r.curtx.name raw) as_text)
  unfolding ranges.text_for as_text
  for_numbers rows r raw = one_then numbers (ranges.text_for rows r.curtx.name raw) as_text (text_numbers _ raw) (λ t _. refl)

-- What CURTX names. 02, P1: "N parameters may name either"

module _ (rows : Rows) (curtx : OptionalCurve) (row : Row) (there : rows.holder (curve curtx.name) ≡ some row) where
  pub no_polynomial_lem : is_polynomial row ≡ false → polynomial_for rows curtx ≡ None
  unfolding polynomial_for polynomial_in
  no_polynomial_lem f = cond_cases (λ (x : rust.Option Polynomial). x ≡ None) curtx.given (λ _. rw (there, f)) (λ _. refl)

  a_polynomial : curtx.given ≡ true → is_polynomial row ≡ true → polynomial_for rows curtx ≡ Some (mcf_row row.bytes).polynomial
  unfolding polynomial_for polynomial_in
  a_polynomial g t = rw (g, there, t)

  no_curve : is_polynomial row ≡ true → curve_of rows curtx.name ≡ none
  unfolding curve_of curve_by curve_ends
  no_curve t = rw (there, t)

abbrev curtx_naming : PcfRow → Naming
curtx_naming r = record { column = 12; key = curve r.curtx.name; kind = itself any_row; chained = false }

curtx_named : (r : PcfRow) → r.categ ≡ Numeric → r.curtx.given ≡ true → Memᴰ (curtx_naming r) (pcf_facts r).names
unfolding pcf_facts
curtx_named r c g =
    let valid : Naming = record { column = 8; key = parameter r.valid.name; kind = itself whole; chained = true } in
    rw (c, g) (Memᴰ.append_right (cond r.valid.given (valid ∷ []) []) {t = curtx_naming r ∷ []} (Memᴰ.head refl))

module _ (texts : List (List ℕ)) (name : Name) (row : Row) (found : (of_tables texts).holder (parameter name) ≡ some row) where
  abbrev pcf : PcfRow
  pcf = pcf_row row.bytes

  pub curtx_curve : pcf.categ ≡ Numeric → pcf.curtx.given ≡ true → Named texts (curtx_naming pcf)
  unfolding owners_of facts_of
  curtx_curve c g =
      let t = held_by (parameter name) row Pcf refl (found_holds texts (parameter name) row found) in
      named_row texts row (found_good texts (parameter name) row found) (curtx_naming pcf)
      (subst (λ (x : Table). Memᴰ (curtx_naming pcf) (facts_of x row.bytes).names) (sym t.0) (curtx_named pcf c g))

  -- a refusal that a curve gives, and no text
  module _ (n : ℕ) (so : Curve → ℤ → Bool) (other : any (eqb n) (0 ∷ 32 ∷ []) ≡ false)
      (exactly : (c : CurveName) (caf : Row) (there : (of_tables texts).holder (curve c) ≡ some caf) (is : is_polynomial caf ≡ false) (raw : ℤ)
      → is_raw raw ≡ true
      → (along (curve_of (of_tables texts) c) raw ≡ refused n 0) ↔ (so (good_curve texts c caf there is) raw ≡ true)) (raw : ℤ) (is : is_raw raw ≡ true)
    where
      abbrev told : Outcome Engineered
      told = engineered (of_tables texts) pcf raw

      by_curve : told ≡ refused n 0 → ByItsCurve so (of_tables texts) pcf raw
      unfolding as_value
      by_curve e = go pcf.categ pcf.curtx.given refl refl
        where
          never : (o : Outcome Engineered) → Numbered (32 ∷ []) o → told ≡ o → ⊥
          never o h q = never_one n (32 ∷ []) o other h (ap (λ (o : Outcome Engineered). number_in o) (sym q ∙ e))

          along_its : (w : Named texts (curtx_naming pcf)) → is_polynomial w.row ≡ false → pcf.categ ≡ Numeric → pcf.curtx.given ≡ true
              → ByItsCurve so (of_tables texts) pcf raw
          along_its w f c g =
              let none = no_polynomial_lem (of_tables texts) pcf.curtx w.row w.found f in
              let o = first_only n 0 (along (curve_of (of_tables texts) pcf.curtx.name) raw) as_value (λ z. (value (number z), refl))
              (sym (along_curve (of_tables texts) pcf raw c g none) ∙ e) in
              record {
                numeric = c;
                given = g;
                curve = good_curve texts pcf.curtx.name w.row w.found f;
                is = curve_is texts pcf.curtx.name w.row w.found f;
                holds = (exactly pcf.curtx.name w.row w.found f raw is).0 o;
              }

          go : (c : Category) (given : Bool) → pcf.categ ≡ c → pcf.curtx.given ≡ given → ByItsCurve so (of_tables texts) pcf raw
          go Numeric true c g =
              let w = curtx_curve c g in
              bool_cases (is_polynomial w.row)
              (λ t. absurd (polynomial_never_refused (of_tables texts) pcf _ c (a_polynomial (of_tables texts) pcf.curtx w.row w.found g t) raw n 0 e))
              (λ f. along_its w f c g)
          go Numeric false c g = absurd (never (answer (value (number raw))) refl (as_read (of_tables texts) pcf raw c g))
          go Status given c g = absurd (never _ (for_numbers (32 ∷ []) refl (of_tables texts) pcf raw) (by_text (of_tables texts) pcf raw c))
          go Text given c g = absurd (never (answer (value (number raw))) refl (as_string (of_tables texts) pcf raw c))

      curve_refused : ByItsCurve so (of_tables texts) pcf raw → told ≡ refused n 0
      curve_refused u =
          let w = curtx_curve u.numeric u.given in
          let f : is_polynomial w.row ≡ false = false_of (is_polynomial w.row)
          (λ t. none≢some u.curve (sym (no_curve (of_tables texts) pcf.curtx w.row w.found t) ∙ u.is)) in
          let good : Curve = good_curve texts pcf.curtx.name w.row w.found f in
          let c = curve_is texts pcf.curtx.name w.row w.found f in
          let i = u.is in
          let q : u.curve ≡ good = cc in
          let holds : so good raw ≡ true = ap (λ (x : Curve). so x raw) (sym q) ∙ u.holds in
          let none = no_polynomial_lem (of_tables texts) pcf.curtx w.row w.found f in
          along_curve (of_tables texts) pcf raw u.numeric u.given none
          ∙ then_refused (along (curve_of (of_tables texts) pcf.curtx.name) raw) as_value n 0
          ((exactly pcf.curtx.name w.row w.found f raw is).1 holds)

      engineered_by_lem : (told ≡ refused n 0) ↔ ByItsCurve so (of_tables texts) pcf raw
      engineered_by_lem = (by_curve, curve_refused)

  -- 30 and 31 of an engineering value, by the good pcf row of its parameter
  pub engineered_30 : (raw : ℤ) → is_raw raw ≡ true → (engineered (of_tables texts) pcf raw ≡ refused 30 0) ↔ OffItsCurve (of_tables texts) pcf raw
  engineered_30 = engineered_by_lem 30 is_off_curve refl (curve_30 texts)

  pub engineered_31 : (raw : ℤ) → is_raw raw ≡ true → (engineered (of_tables texts) pcf raw ≡ refused 31 0) ↔ OutOfItsRange (of_tables texts) pcf raw
  engineered_31 = engineered_by_lem 31 is_out_of_range refl (curve_31 texts)

  -- 02, P1: "31 is for caf curves only": where CURTX names a polynomial the answer is its double, whatever is read
  pub engineered_polynomial : (mcf : Row) → pcf.categ ≡ Numeric → pcf.curtx.given ≡ true → (of_tables texts).holder (curve pcf.curtx.name) ≡ some mcf
      → is_polynomial mcf ≡ true → (raw : ℤ) → engineered (of_tables texts) pcf raw ≡ answer (double (polynomial_at (mcf_row mcf.bytes).polynomial raw))
  engineered_polynomial mcf c g there t raw =
      polynomial_answered (of_tables texts) pcf (mcf_row mcf.bytes).polynomial c (a_polynomial (of_tables texts) pcf.curtx mcf there g t) raw
