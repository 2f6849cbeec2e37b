-- A double that an engineering call answers is a number: no infinity and no NaN.
use mathlib.Core.Path.{◌≡◌, refl, subst}
use mathlib.Core.Bool.{true, not}
use mathlib.Core.List.{List}
use mathlib.Core.Option.{Option, none, some}
use Rattle.std.specs.Prelude.{Some, None}
use Rattle.std.specs.Prelude as rust
use Prim.Native.Nat.{ℕ, ◌^◌, ◌≤◌}
use native.Mathlib.Omega.{arith}
use lib.Dec.{T, leb}
use lib.IntN.{ℤ, pos, negsuc, nat_abs}
use lib.Ieee.{Float, is_nan}
use borrow.Author.Tests.{leb-true}
use Rattle.laws.proofs.Cases.{and_left}
use Rattle.polynomials.specs.Polynomial.{polynomial_at}
use Rattle.polynomials.proofs.Sizes.{Under, under_number}
use Rattle.polynomials.proofs.Finite.{value_finite}
use Rattle.name_bytes.specs.Names.{name_of}
use Rattle.decoding.specs.Records.{pcf_row}
use Rattle.rows.specs.declared.letters.Category.{Category}
use Rattle.rows.specs.declared.letters.Category.TheVariants.{Numeric, Status, Text}
use Rattle.rows.specs.declared.records.PcfRow.{PcfRow}
use Rattle.curves.specs.Line.{is_between, is_raw}
use Rattle.verdicts.specs.Key.{parameter}
use Rattle.outcomes.specs.Outcome.{Outcome, answer, and_then}
use Rattle.outcomes.specs.Values.{Value, number, part, bits}
use Rattle.database.specs.Rows.{Row, Rows}
use Rattle.database.specs.GoodRows.{of_tables}
use Rattle.polynomials.specs.declared.Polynomial.{Polynomial}
use Rattle.polynomial_curves.specs.Polynomials.{polynomial_for}
use Rattle.polynomial_curves.proofs.FiniteLaws.{curve_texts}
use Rattle.curve_values.specs.Scale.{scale_of, on_scale}
use Rattle.texts.specs.Texts.{text_for}
use Rattle.engineering.specs.Engineering.{Engineered, double, as_value, as_text, by_polynomial, numeric_value, by_category, engineered}
use Rattle.parameters.specs.Located.{needed}
use Rattle.extraction.specs.Extraction.{extract_by}
use Rattle.extraction.specs.Engineering.{engineered_from, engineer_by}
use Rattle.tables.specs.Sizes.{Sized, fit, refused_by, sizes_of}
use Rattle.calls.specs.Tables.{after_sizes, asking}
use Rattle.calls.specs.Calls.{engineer_of}
use Rattle.at_verdicts.proofs.NumberLaws.{earlier}
use Rattle.at_verdicts.proofs.EngineerRefusals.{extract_raw}

raw_size : (z : ℤ) → is_raw z ≡ true → nat_abs z ≤ 2 ^ 32
unfolding is_raw is_between
raw_size (pos n) e = omega (arith, leb-true n 4294967295 e)
raw_size (negsuc n) e = omega (arith, leb-true n 2147483647 (and_left (leb n 2147483647) true e))

-- What answers a double

no_double : {A : Type 0} (o : Outcome A) (f : A → Outcome Engineered) (x : Float) → ((a : A) → f a ≡ answer (double x) → ⊥)
    → and_then o f ≡ answer (double x) → ⊥
no_double o f x h e = let a = earlier o f (double x) e in h a.0 a.2

module _ (rows : Rows) (r : PcfRow) (raw : ℤ) (is : is_raw raw ≡ true) (x : Float) where
  engineered_finite : engineered rows r raw ≡ answer (double x) → Under 252 x
  unfolding engineered by_category numeric_value by_polynomial as_value as_text
  engineered_finite = go r.categ
    where
      by : (f : rust.Option Polynomial) → polynomial_for rows r.curtx ≡ f → by_polynomial f raw (and_then (on_scale (scale_of rows r.curtx) raw) as_value) ≡ answer (double x)
          → Under 252 x
      by (Some p) n e =
          let q : polynomial_at p raw ≡ x = cc in
          subst (Under 252) q (value_finite p raw (curve_texts rows r.curtx p n) (raw_size raw is))
      by None n e =
          absurd (no_double (on_scale (scale_of rows r.curtx) raw) as_value x (λ z q. (let w : ◌≡◌ {A = ℕ} 0 1 = cc in omega arith)) e)

      go : (c : Category) → by_category rows c r.curtx raw ≡ answer (double x) → Under 252 x
      go Numeric e = by (polynomial_for rows r.curtx) refl e
      go Status e = absurd (no_double (text_for rows r.curtx.name raw) as_text x (λ t q. (let w : ◌≡◌ {A = ℕ} 0 1 = cc in omega arith)) e)
      go Text e = absurd (let w : ◌≡◌ {A = ℕ} 0 1 = cc in omega arith)

module _ (texts : List (List ℕ)) (p name : List ℕ) (k : ℕ) (x : Float) where
  by_finite : engineer_by (of_tables texts) p name k ≡ answer (double x) → Under 252 x
  unfolding engineer_by engineered_from needed and_then
  by_finite e =
      let a = earlier (extract_by (of_tables texts) p name k) (λ r. engineered_from (of_tables texts) (name_of name) r.value) (double x) e in
      go a.0.value ((of_tables texts).holder (parameter (name_of name))) (λ z q. extract_raw texts p name k a.0 z a.1 q) refl a.2
    where
      go : (v : Value) (o : Option Row) → ((z : ℤ) → v ≡ number z → is_raw z ≡ true) → (of_tables texts).holder (parameter (name_of name)) ≡ o
          → engineered_from (of_tables texts) (name_of name) v ≡ answer (double x) → Under 252 x
      go (part start bytes) o is f e = absurd (let w : ◌≡◌ {A = ℕ} 0 1 = cc in omega arith)
      go (bits pattern width) o is f e = absurd (let w : ◌≡◌ {A = ℕ} 0 1 = cc in omega arith)
      go (number z) none is f e = absurd (let w : ◌≡◌ {A = ℕ} 0 1 = cc in omega arith)
      go (number z) (some row) is f e = engineered_finite (of_tables texts) (pcf_row row.bytes) z (is z refl) x (rw f at e)

  -- at most 2 ^ 252 in size
  pub engineer_finite : engineer_of texts p name k ≡ answer (double x) → Under 252 x
  unfolding engineer_of asking after_sizes
  engineer_finite e = go (sizes_of texts) e
    where
      go : (s : Sized) → after_sizes s (engineer_by (of_tables texts) p name k) ≡ answer (double x) → Under 252 x
      go fit e = by_finite e
      go (refused_by m q) e = absurd (let w : ◌≡◌ {A = ℕ} 0 1 = cc in omega arith)

  pub engineer_number : engineer_of texts p name k ≡ answer (double x) → T (not (is_nan x))
  engineer_number e = under_number 252 x (engineer_finite e)
