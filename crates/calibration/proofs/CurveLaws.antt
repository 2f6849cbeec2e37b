-- Each case of a curve's value.
use mathlib.Core.Path.{◌≡◌, ap, ◌∙◌}
use mathlib.Core.Bool.{true, false}
use mathlib.Core.List.{List}
use Prim.Native.Nat.{ℕ}
use lib.IntN.{ℤ, pos}
use lib.ListN.{get_or}
use lib.Signed.{lt_z}
use Rattle.laws.specs.Said.{Said, value, refused}
use Rattle.rows.specs.declared.letters.OffEnds.{OffEnds}
use Rattle.curves.specs.Line.{line_at, said_on_line}
use Rattle.curves.specs.declared.line.LineError.{LineError}
use Rattle.curves.specs.declared.line.LineError.TheVariants as line
use Rattle.curves.specs.declared.line.Point.{Point}
use Rattle.calibration.specs.Nearest.{not_above, below, above}
use Rattle.calibration.specs.Curve.{point_numbered, through, off_end, from_last, before_first, placed, curve_at, of_line, said_curve}
use Rattle.calibration.specs.declared.curve.CurveError.{CurveError}
use Rattle.std.specs.Prelude.{Option, Some, None, Result, Ok, Err, IsErr}
use Rattle.std.specs.Result.{IsErrAnd}

-- an error of the line, told of the curve
pub error_told : (e : LineError) (r : Result ℤ CurveError) → IsErr r × IsErrAnd r (λ x. x ≡ of_line e) → said_curve r ≡ said_on_line (Err e)
unfolding said_curve said_on_line of_line
error_told e (Ok y) h = absurd h.1
error_told line.Beyond (Err x) h = ap (λ (x : CurveError). said_curve (Err x)) h.1
error_told line.NoLine (Err x) h = ap (λ (x : CurveError). said_curve (Err x)) h.1

module _ (xs ys : List ℤ) (x : ℤ) where
  pub through_two : {from to : Option ℕ} {i j : ℕ} {p q : Point} {z : ℤ} → from ≡ Some i → to ≡ Some j → p ≡ point_numbered xs ys i → q ≡ point_numbered xs ys j → z ≡ x
      → line_at p q z ≡ through xs ys from to x
  unfolding through
  through_two e f p q z = rw (e, f, p, q, z)

  pub through_one : {from to : Option ℕ} {i : ℕ} → from ≡ Some i → to ≡ None → refused 30 ≡ through xs ys from to x
  unfolding through
  through_one e f = rw (e, f)

  pub through_none : {from : Option ℕ} (to : Option ℕ) → from ≡ None → refused 30 ≡ through xs ys from to x
  unfolding through
  through_none to e = rw e

  module _ (ends : OffEnds) where
    pub past_last : (i : ℕ) {from : Option ℕ} {z : ℤ} {r : Said} → r ≡ off_end ends (through xs ys from (Some i) z) → from ≡ below xs (get_or xs i (pos 0)) → z ≡ x
        → lt_z (get_or xs i (pos 0)) x ≡ true → r ≡ from_last ends xs ys i x
    unfolding from_last
    past_last i e f z t = e ∙ rw (f, z, t)

    pub at_last : (i : ℕ) → lt_z (get_or xs i (pos 0)) x ≡ false → value (get_or ys i (pos 0)) ≡ from_last ends xs ys i x
    unfolding from_last
    at_last i e = rw e

    pub before_first_lem : (j : ℕ) {to : Option ℕ} {z : ℤ} {r : Said} → r ≡ off_end ends (through xs ys (Some j) to z) → to ≡ above xs (get_or xs j (pos 0)) → z ≡ x
        → r ≡ before_first ends xs ys j x
    unfolding before_first
    before_first_lem j e f z = e ∙ rw (f, z)

    pub curve_placed : {low high : Option ℕ} → low ≡ not_above xs x → high ≡ above xs x → placed ends xs ys x low high ≡ curve_at ends xs ys x
    unfolding curve_at
    curve_placed e f = rw (e, f)
