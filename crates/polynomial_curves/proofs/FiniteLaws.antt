-- The value of a polynomial that CURTX names is a number: its coefficients are read from columns, or empty ones.
use mathlib.Core.Path.{◌≡◌, refl, subst}
use mathlib.Core.Bool.{Bool, true, false, cond}
use mathlib.Core.List.{List}
use mathlib.Core.Option.{Option, none, some}
use Rattle.std.specs.Prelude.{Some, None}
use Prim.Native.Nat.{ℕ, ◌^◌, ◌≤◌}
use native.Mathlib.Omega.{arith}
use lib.IntN.{ℤ, nat_abs}
use lib.Ieee.{binary64, of_int}
use Rattle.coefficients.specs.Coefficient.{coefficient_of}
use Rattle.coefficients.specs.declared.Coefficient.{Coefficient}
use Rattle.coefficients.specs.declared.Coefficient.TheVariants.{Double, NotCoefficient, PowerOutOfRange, TooWide}
use Rattle.polynomials.specs.declared.Polynomial.{Polynomial}
use Rattle.polynomials.proofs.Finite.{FromText, FromTexts, zero_from_text, AllFinite, all_finite}
use Rattle.rows.specs.Values.{coefficient_from, coefficient_or_zero}
use Rattle.decoding.specs.Records.{column, mcf_row}
use Rattle.rows.specs.declared.records.OptionalCurve.{OptionalCurve}
use Rattle.verdicts.specs.Key.{curve}
use Rattle.database.specs.Rows.{Row, Rows}
use Rattle.database.specs.Kinds.{is_polynomial}
use Rattle.polynomial_curves.specs.Polynomials.{polynomial_in, polynomial_for}

coefficient_from_lem : (t : List ℕ) (c : Coefficient) → coefficient_of t ≡ c → FromText (coefficient_from c)
unfolding coefficient_from
coefficient_from_lem t (Double x) e = record { text = t; reads = e }
coefficient_from_lem t NotCoefficient e = zero_from_text
coefficient_from_lem t PowerOutOfRange e = zero_from_text
coefficient_from_lem t TooWide e = zero_from_text

column_from_lem : (t : List ℕ) → FromText (coefficient_or_zero t)
unfolding coefficient_or_zero
column_from_lem t = coefficient_from_lem t (coefficient_of t) refl

row_texts : (line : List ℕ) → FromTexts (mcf_row line).polynomial
unfolding mcf_row
row_texts line =
    record {
      pol1 = column_from_lem (column line 2);
      pol2 = column_from_lem (column line 3);
      pol3 = column_from_lem (column line 4);
      pol4 = column_from_lem (column line 5);
      pol5 = column_from_lem (column line 6);
    }

module _ (rows : Rows) (curtx : OptionalCurve) (p : Polynomial) (named : polynomial_for rows curtx ≡ Some p) where
  -- it is a row's
  pub curve_texts : FromTexts p
  unfolding polynomial_for polynomial_in
  curve_texts = go curtx.given (rows.holder (curve curtx.name)) named
    where
      by : (row : Row) (b : Bool) → cond b (Some (mcf_row row.bytes).polynomial) None ≡ Some p → FromTexts p
      by row true e =
          let q : (mcf_row row.bytes).polynomial ≡ p = cc in
          subst FromTexts q (row_texts row.bytes)
      by row false e = absurd (let z : ◌≡◌ {A = ℕ} 0 1 = cc in omega arith)

      go : (given : Bool) (o : Option Row) → cond given (polynomial_in o) None ≡ Some p → FromTexts p
      go true (some row) e = by row (is_polynomial row) e
      go true none e = absurd (let z : ◌≡◌ {A = ℕ} 0 1 = cc in omega arith)
      go false o e = absurd (let z : ◌≡◌ {A = ℕ} 0 1 = cc in omega arith)

  -- no operation at a raw value gives an infinity or a NaN
  pub curve_finite : (raw : ℤ) → nat_abs raw ≤ 2 ^ 32 → AllFinite p (of_int binary64 raw)
  curve_finite raw h = all_finite p raw curve_texts h
