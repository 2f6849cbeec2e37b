-- The value of a curve, whose points stand in any order: the X of each in one list, and its Y in another.
use Rattle.std.specs.Prelude.{◌≡◌, refl, cond, List, [], ◌∷◌, ℕ, ℤ, pos, negsuc, get_or, Option, Some, None, Result, Ok, Err}
use Rattle.std.specs.Int.Signed.{lt_z}
use Rattle.laws.specs.Said.{Said, value, refused, free}
use Rattle.rows.specs.declared.letters.OffEnds.{OffEnds}
use Rattle.rows.specs.declared.letters.OffEnds.TheVariants.{Extrapolate, Refuse}
use Rattle.curves.specs.Floor.{floor_div}
use Rattle.curves.specs.Line.{is_between, is_coordinate, is_point, is_segment, is_raw, height_at, result_of, line_at}
use Rattle.curves.specs.declared.line.Point.{Point}
use Rattle.calibration.specs.Nearest.{passes, nearer, closer, better, nearest_of, not_above, below, above}
use Rattle.curves.specs.declared.line.LineError.{LineError}
use Rattle.curves.specs.declared.line.LineError.TheVariants as line
use Rattle.calibration.specs.declared.curve.CurveError.{CurveError}
use Rattle.calibration.specs.declared.curve.CurveError.TheVariants.{OffCurve, Beyond, NoLine}

-- the point i; what is past the end of a list is 0
unfoldable pub point_numbered : List ℤ → List ℤ → ℕ → Point
point_numbered xs ys i = record { x = get_or xs i (pos 0); y = get_or ys i (pos 0) }

-- 01: "Between neighbours the straight line's exact fraction is rounded down."
-- the line through two points at x; a good curve has two, and one without them is refused
unfoldable pub through : List ℤ → List ℤ → Option ℕ → Option ℕ → ℤ → Said
through xs ys (Some i) (Some j) x = line_at (point_numbered xs ys i) (point_numbered xs ys j) x
through xs ys (Some i) None x = refused 30
through xs ys None to x = refused 30

-- 01: "Off the ends, P uses the nearest two points", "30 … raw value off an F curve"
unfoldable pub off_end : OffEnds → Said → Said
off_end Extrapolate line = line
off_end Refuse line = refused 30

-- x is not below the last point, i: past it, or at it and so on the curve
unfoldable pub from_last : OffEnds → List ℤ → List ℤ → ℕ → ℤ → Said
from_last ends xs ys i x =
    cond (lt_z (get_or xs i (pos 0)) x) (off_end ends (through xs ys (below xs (get_or xs i (pos 0))) (Some i) x)) (value (get_or ys i (pos 0)))

-- x is below the first point, j
unfoldable pub before_first : OffEnds → List ℤ → List ℤ → ℕ → ℤ → Said
before_first ends xs ys j x = off_end ends (through xs ys (Some j) (above xs (get_or xs j (pos 0))) x)

-- the value at x, by the point that is not above x and the one that is above it
unfoldable pub placed : OffEnds → List ℤ → List ℤ → ℤ → Option ℕ → Option ℕ → Said
placed ends xs ys x (Some i) (Some j) = through xs ys (Some i) (Some j) x
placed ends xs ys x (Some i) None = from_last ends xs ys i x
placed ends xs ys x None (Some j) = before_first ends xs ys j x
placed ends xs ys x None None = refused 30

-- 01: "A curve's points are taken by rising X."
unfoldable pub curve_at : OffEnds → List ℤ → List ℤ → ℤ → Said
curve_at ends xs ys x = placed ends xs ys x (not_above xs x) (above xs x)

-- a line's error is its curve's
unfoldable pub of_line : LineError → CurveError
of_line line.Beyond = Beyond
of_line line.NoLine = NoLine

unfoldable pub said_curve : Result ℤ CurveError → Said
said_curve (Ok y) = value y
said_curve (Err OffCurve) = refused 30
said_curve (Err Beyond) = refused 31
said_curve (Err NoLine) = free

-- of the point (7,9) alone: 7 gives 9, and 30 off it, under P too
of_one : (
    let xs = pos 7 ∷ [] in
    let ys = pos 9 ∷ [] in
    (curve_at Refuse xs ys (pos 7) ≡ value (pos 9)) × (curve_at Extrapolate xs ys (pos 6) ≡ refused 30) × (curve_at Extrapolate xs ys (pos 8) ≡ refused 30)
    )
unfolding curve_at placed from_last before_first off_end through not_above below above nearest_of better closer nearer passes
of_one = (refl, refl, refl)

-- of (20,100), (0,0) and (10,-5) in this order: 15 gives 47; an end is on the curve; before the first point P uses the
-- first two, so -1 gives 1/2 and so 0, and F refuses
of_three : (
    let xs = pos 20 ∷ pos 0 ∷ pos 10 ∷ [] in
    let ys = pos 100 ∷ pos 0 ∷ negsuc 4 ∷ [] in
    (curve_at Refuse xs ys (pos 15) ≡ value (pos 47))
    × (curve_at Refuse xs ys (pos 20) ≡ value (pos 100)) × (curve_at Refuse xs ys (pos 0) ≡ value (pos 0))
    × (curve_at Extrapolate xs ys (negsuc 0) ≡ value (pos 0)) × (curve_at Refuse xs ys (negsuc 0) ≡ refused 30)
    )
unfolding
    curve_at placed from_last before_first off_end through point_numbered not_above below above nearest_of better closer nearer passes
    line_at is_segment is_point is_coordinate is_raw is_between result_of height_at floor_div
of_three = (refl, refl, refl, refl, refl)
