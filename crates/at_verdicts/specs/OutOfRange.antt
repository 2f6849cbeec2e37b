-- Raw values at which a curve's result is out of range.
use Rattle.std.specs.Prelude.{◌≡◌, refl, Bool, true, false, not, ◌&&◌, List, [], ◌∷◌, ℕ, ℤ, pos, negsuc, get_or, Option, Some, None}
use Rattle.rows.specs.declared.letters.OffEnds.TheVariants.{Extrapolate, Refuse}
use Rattle.curves.specs.Floor.{floor_div}
use Rattle.curves.specs.Line.{is_between, height_at}
use Rattle.calibration.specs.Nearest.{passes, nearer, closer, better, nearest_of, not_above, below, above}
use Rattle.calibration.specs.Curve.{point_numbered}
use Rattle.curve_points.specs.Curves.{Curve}
use Rattle.curve_values.specs.OffCurve.{is_f, is_off, is_off_curve}

-- the line through two points at x; 0 where there aren't two, which no good curve has
unfoldable pub height_by : (xs ys : List ℤ) → (from to : Option ℕ) → (x : ℤ) → ℤ
height_by xs ys (Some i) (Some j) x = height_at (point_numbered xs ys i) (point_numbered xs ys j) x
height_by xs ys (Some i) None x = pos 0
height_by xs ys None to x = pos 0

-- 01: "Between neighbours the straight line"; "Off the ends, P uses the nearest two points":
-- by the point that is not above x and the one that is above it, and off the ends by the nearest point and the next
unfoldable pub height_placed : (xs ys : List ℤ) → (low high : Option ℕ) → (x : ℤ) → ℤ
height_placed xs ys (Some i) (Some j) x = height_by xs ys (Some i) (Some j) x
height_placed xs ys (Some i) None x = height_by xs ys (below xs (get_or xs i (pos 0))) (Some i) x
height_placed xs ys None (Some j) x = height_by xs ys (Some j) (above xs (get_or xs j (pos 0))) x
height_placed xs ys None None x = pos 0

unfoldable pub height_on : Curve → ℤ → ℤ
height_on c x = height_placed c.xs c.ys (not_above c.xs x) (above c.xs x) x

-- 01: "31 … curve result outside −2,147,483,648 to 2,147,483,647"; 30 comes before it
unfoldable pub is_out_of_range : Curve → ℤ → Bool
is_out_of_range c raw = not (is_off_curve c raw) && not (is_between (negsuc 2147483647) (pos 2147483647) (height_on c raw))

-- through (0,0) and (1,1000): a million times 1,000 fits, three million times doesn't, and off an F curve it is 30
pub record Examples : Type 0 where
  pub fits : is_out_of_range (record { ends = Extrapolate; xs = pos 0 ∷ pos 1 ∷ []; ys = pos 0 ∷ pos 1000 ∷ [] }) (pos 1000000) ≡ false
  pub beyond : is_out_of_range (record { ends = Extrapolate; xs = pos 0 ∷ pos 1 ∷ []; ys = pos 0 ∷ pos 1000 ∷ [] }) (pos 3000000) ≡ true
  pub off : is_out_of_range (record { ends = Refuse; xs = pos 0 ∷ pos 1 ∷ []; ys = pos 0 ∷ pos 1000 ∷ [] }) (pos 3000000) ≡ false

pub examples : Examples
unfolding
    is_out_of_range height_on height_placed height_by is_off_curve is_off is_f is_between height_at floor_div point_numbered
    not_above below above nearest_of better closer nearer passes
examples = record { fits = refl; beyond = refl; off = refl }
