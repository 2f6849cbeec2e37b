-- Categories case by case.
use mathlib.Core.Path.{◌≡◌, sym, ◌∙◌}
use Rattle.std.specs.Prelude.{Option, Some, None}
use Prim.Native.Nat.{ℕ}
use native.Mathlib.Omega.{arith}
use lib.IntN.{ℤ}
use lib.Ieee.{Float}
use Rattle.rows.specs.declared.records.PcfRow.{PcfRow}
use Rattle.rows.specs.declared.records.OptionalCurve.{OptionalCurve}
use Rattle.rows.specs.declared.letters.Category.{Category}
use Rattle.rows.specs.declared.letters.Category.TheVariants as category
use Rattle.outcomes.specs.Outcome.{Outcome, answer, refused, and_then}
use Rattle.database.specs.Rows.{Rows}
use Rattle.polynomials.specs.Polynomial.{polynomial_at}
use Rattle.polynomials.specs.declared.Polynomial.{Polynomial}
use Rattle.polynomial_curves.specs.Polynomials.{polynomial_for}
use Rattle.curve_values.specs.Scale.{scale_of, on_scale}
use Rattle.texts.specs.Texts.{Text, text_for}
use Rattle.engineering.specs.Engineering.{Engineered, double, as_value, as_text, by_polynomial, numeric_value, by_category, engineered}

-- N, by what CURTX names
module _ (rows : Rows) (curtx : OptionalCurve) (raw : ℤ) {f : Option Polynomial} (named : f ≡ polynomial_for rows curtx) where
  pub numeric_polynomial : (p : Polynomial) {x : Float} {z : ℤ} → f ≡ Some p → x ≡ polynomial_at p z → z ≡ raw
      → answer (double x) ≡ numeric_value rows curtx raw
  unfolding numeric_value by_polynomial
  numeric_polynomial p e h q = let n : polynomial_for rows curtx ≡ Some p = sym named ∙ e in rw (n, h, q)

  pub numeric_other : {x : Outcome Engineered} {o : Outcome ℤ} {z : ℤ} → f ≡ None → x ≡ and_then o as_value
      → o ≡ on_scale (scale_of rows curtx) z → z ≡ raw → x ≡ numeric_value rows curtx raw
  unfolding numeric_value by_polynomial
  numeric_other e h k q = let n : polynomial_for rows curtx ≡ None = sym named ∙ e in h ∙ rw (n, k, q)

module _ (rows : Rows) {kind : Category} (curtx : OptionalCurve) (raw : ℤ) {z : ℤ} (q : z ≡ raw) where
  pub numeric_value_lem : {x : Outcome Engineered} → kind ≡ category.Numeric → x ≡ numeric_value rows curtx z → x ≡ by_category rows kind curtx raw
  unfolding by_category
  numeric_value_lem e h = h ∙ rw (e, q)

  pub status_text : {x : Outcome Engineered} {o : Outcome Text} → kind ≡ category.Status → x ≡ and_then o as_text → o ≡ text_for rows curtx.name z
      → x ≡ by_category rows kind curtx raw
  unfolding by_category
  status_text e h k = h ∙ rw (e, k, q)

  pub text_raw : kind ≡ category.Text → as_value z ≡ by_category rows kind curtx raw
  unfolding by_category
  text_raw e = rw (e, q)

pub by_row : (rows : Rows) (row : PcfRow) (raw : ℤ) {z : ℤ} {x : Outcome Engineered} → z ≡ raw → x ≡ by_category rows row.categ row.curtx z
    → x ≡ engineered rows row raw
unfolding engineered
by_row rows row raw q h = h ∙ rw q

-- 02, P1: "31 is for caf curves only", and so is 30: where CURTX of an N parameter names a polynomial, it is answered
-- whatever the raw value is
module _ (rows : Rows) (row : PcfRow) (p : Polynomial) (numeric : row.categ ≡ category.Numeric)
    (named : polynomial_for rows row.curtx ≡ Some p) (raw : ℤ) where
  pub polynomial_answered : engineered rows row raw ≡ answer (double (polynomial_at p raw))
  unfolding engineered by_category numeric_value by_polynomial
  polynomial_answered = rw (numeric, named)

  pub polynomial_never_refused : (number place : ℕ) → engineered rows row raw ≡ refused number place → ⊥
  polynomial_never_refused number place e = let q = polynomial_answered in absurd (let z : ◌≡◌ {A = ℕ} 0 1 = cc in omega arith)
