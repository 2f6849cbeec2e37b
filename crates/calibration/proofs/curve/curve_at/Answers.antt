-- `calibration::curve::curve_at` meets its contract, by the two points next to the raw value.
use mathlib.Core.Path.{◌≡◌, sym, ◌∙◌}
use Prim.Native.Nat.{ℕ}
use Rattle.calibration.specs.Nearest.{not_above, above}
use Rattle.calibration.specs.Curve.{through, from_last, before_first, placed, curve_at, said_curve}
use Rattle.std.specs.Prelude.{Option, Some}
use Rattle.calibration.proofs.WordLaws.{of_word}
use Rattle.calibration.proofs.CurveLaws.{curve_placed}
use Rattle.calibration.proofs.curve.curve_at.Goals as goal

pub returns-in-Some-high : goal.returns-in-Some-high
unfolding placed
returns-in-Some-high c =
    let placed-is : (low high : Option ℕ) → c.not_above-low.result ≡ low → c.above-high.result ≡ high → (placed c.args.ends c.args.xs.now c.args.ys.now c.args.x low high ≡ curve_at c.args.ends c.args.xs.now c.args.ys.now c.args.x) = λ _ _ e f. curve_placed c.args.xs.now c.args.ys.now c.args.x c.args.ends
    (sym e ∙ of_word (not_above c.args.xs.now) c.args.x c.ranges.x.sfits c.not_above-low.ensures)
    (sym f ∙ of_word (above c.args.xs.now) c.args.x c.ranges.x.sfits c.above-high.ensures) in
    of_word (through c.args.xs.now c.args.ys.now (Some c.in-Some.i) (Some c.in-Some-high.j)) c.args.x c.ranges.x.sfits c.line_through.ensures
    ∙ placed-is _ _ c.in-Some.is c.in-Some-high.is

pub returns-in-None-high : goal.returns-in-None-high
unfolding placed
returns-in-None-high c =
    let placed-is : (low high : Option ℕ) → c.not_above-low.result ≡ low → c.above-high.result ≡ high → (placed c.args.ends c.args.xs.now c.args.ys.now c.args.x low high ≡ curve_at c.args.ends c.args.xs.now c.args.ys.now c.args.x) = λ _ _ e f. curve_placed c.args.xs.now c.args.ys.now c.args.x c.args.ends
    (sym e ∙ of_word (not_above c.args.xs.now) c.args.x c.ranges.x.sfits c.not_above-low.ensures)
    (sym f ∙ of_word (above c.args.xs.now) c.args.x c.ranges.x.sfits c.above-high.ensures) in
    of_word (from_last c.args.ends c.args.xs.now c.args.ys.now c.in-Some.i) c.args.x c.ranges.x.sfits c.from_last.ensures
    ∙ placed-is _ _ c.in-Some.is c.in-None-high.is

pub returns-in-Some-high-2 : goal.returns-in-Some-high-2
unfolding placed
returns-in-Some-high-2 c =
    let placed-is : (low high : Option ℕ) → c.not_above-low.result ≡ low → c.above-high.result ≡ high → (placed c.args.ends c.args.xs.now c.args.ys.now c.args.x low high ≡ curve_at c.args.ends c.args.xs.now c.args.ys.now c.args.x) = λ _ _ e f. curve_placed c.args.xs.now c.args.ys.now c.args.x c.args.ends
    (sym e ∙ of_word (not_above c.args.xs.now) c.args.x c.ranges.x.sfits c.not_above-low.ensures)
    (sym f ∙ of_word (above c.args.xs.now) c.args.x c.ranges.x.sfits c.above-high.ensures) in
    of_word (before_first c.args.ends c.args.xs.now c.args.ys.now c.in-Some-high-2.j) c.args.x c.ranges.x.sfits c.before_first.ensures
    ∙ placed-is _ _ c.in-None.is c.in-Some-high-2.is

pub returns-in-None-high-2 : goal.returns-in-None-high-2
unfolding placed said_curve
returns-in-None-high-2 c =
    let placed-is : (low high : Option ℕ) → c.not_above-low.result ≡ low → c.above-high.result ≡ high → (placed c.args.ends c.args.xs.now c.args.ys.now c.args.x low high ≡ curve_at c.args.ends c.args.xs.now c.args.ys.now c.args.x) = λ _ _ e f. curve_placed c.args.xs.now c.args.ys.now c.args.x c.args.ends
    (sym e ∙ of_word (not_above c.args.xs.now) c.args.x c.ranges.x.sfits c.not_above-low.ensures)
    (sym f ∙ of_word (above c.args.xs.now) c.args.x c.ranges.x.sfits c.above-high.ensures) in
    placed-is _ _ c.in-None.is c.in-None-high-2.is
