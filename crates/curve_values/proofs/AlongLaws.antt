-- The value along a curve, case by case.
use mathlib.Core.Path.{◌≡◌}
use mathlib.Core.List.{List}
use lib.IntN.{ℤ}
use lib.ListN.{take}
use Rattle.std.specs.Prelude.{Some, None}
use Rattle.rows.specs.declared.letters.OffEnds.{OffEnds}
use Rattle.calibration.specs.Curve.{curve_at}
use Rattle.outcomes.specs.Outcome.{refused}
use Rattle.curve_points.specs.Curves.{curve_by}
use Rattle.curve_points.specs.Points.{curve_in}
use Rattle.curve_points.specs.declared.Points.{Points}
use Rattle.curve_values.specs.Along.{outcome_of, along}

-- the value along a curve, by its points in arrays
module _ (points : Points) (xs ys : List ℤ) (raw : ℤ) where
  pub along_points : {ends : OffEnds} {front back : List ℤ} {x : ℤ} → points.ends ≡ Some ends
      → front ≡ take points.count xs → back ≡ take points.count ys → x ≡ raw
      → outcome_of (curve_at ends front back x) ≡ along (curve_in points xs ys) raw
  unfolding along curve_in curve_by
  along_points e f b r = rw (e, f, b, r)

  pub along_none : points.ends ≡ None → refused 30 0 ≡ along (curve_in points xs ys) raw
  unfolding along curve_in curve_by
  along_none e = rw e
