-- A curve in lent arrays.
use Rattle.std.specs.Prelude.{◌≡◌, refl, List, [], ◌∷◌, ℤ, pos, length, take, Some}
use Rattle.std.proofs.Math.Option.{Option, some}
use Rattle.name_bytes.specs.declared.CurveName.{CurveName}
use Rattle.rows.specs.declared.letters.OffEnds.TheVariants.{Refuse}
use Rattle.verdicts.specs.Key.{curve}
use Rattle.database.specs.Rows.{Rows}
use Rattle.curve_points.specs.Curves.{Curve, curve_ends, curve_by}
use Rattle.curve_points.specs.declared.Points.{Points}

-- the curve whose points are the first of the arrays
unfoldable pub curve_in : Points → (xs ys : List ℤ) → Option Curve
curve_in points xs ys = curve_by points.ends (take points.count xs) (take points.count ys)

-- what `gather_points` answers
unfoldable pub points_of : Rows → CurveName → Points
points_of rows name = record { ends = curve_ends (rows.holder (curve name)); count = length (rows.members (curve name)) }

-- one point of two
pub example : curve_in (record { ends = Some Refuse; count = 1 }) (pos 7 ∷ pos 8 ∷ []) (pos 9 ∷ pos 0 ∷ [])
    ≡ some (record { ends = Refuse; xs = pos 7 ∷ []; ys = pos 9 ∷ [] })
unfolding curve_in curve_by
example = refl
