-- A curve goes through each of its points, in whatever order they stand, under P and F alike.
use mathlib.Core.Path.{◌≡◌, refl, sym, ap, ◌∙◌}
use mathlib.Core.Bool.{true}
use mathlib.Core.List.{List}
use Prim.Native.Nat.{ℕ, ◌<◌, ◌≤◌}
use native.Mathlib.Omega.{arith}
use lib.Dec.{leb}
use lib.IntN.{ℤ, pos, negsuc}
use lib.ListN.{length, get_or}
use lib.Signed.{lt_z}
use borrow.Author.Tests.{le-leb, leb-true}
use Rattle.laws.specs.Said.{value}
use Rattle.laws.proofs.Cases.{and_left, and_right, and_both}
use Rattle.rows.specs.declared.letters.OffEnds.{OffEnds}
use Rattle.curves.specs.Line.{is_between, is_coordinate, is_point, is_segment, is_raw, result_of, line_at}
use Rattle.curves.specs.declared.line.Point.{Point}
use Rattle.curves.proofs.LineLaws.{through_first, line_is}
use Rattle.calibration.specs.Nearest.{passes, nearer, not_above, above}
use Rattle.calibration.specs.Curve.{point_numbered, through, placed, curve_at}
use Rattle.std.specs.Prelude.{Option, Some, None}
use Rattle.calibration.specs.declared.nearest.Side.TheVariants.{NotAbove, Above}
use Rattle.calibration.proofs.OrderLaws.{lt_irrefl, le_refl, le_not_lt}
use Rattle.calibration.proofs.NearestOf.{Nearest, not_above_nearest, above_nearest}
use Rattle.calibration.proofs.CurveLaws.{at_last}

-- what lies in a range about 0 lies in a wider one
wider : (a b c d : ℕ) (z : ℤ) → a ≤ c → b ≤ d → is_between (negsuc a) (pos b) z ≡ true → is_between (negsuc c) (pos d) z ≡ true
unfolding is_between
wider a b c d (pos n) h k e = let l = leb-true n b (and_right true (leb n b) e) in le-leb n d (omega arith)
wider a b c d (negsuc n) h k e = let l = leb-true n a (and_left (leb n a) true e) in and_both (le-leb n c (omega arith)) refl

coordinate_raw : (z : ℤ) → is_coordinate z ≡ true → is_raw z ≡ true
unfolding is_coordinate is_raw
coordinate_raw z e = wider 1073741823 1073741823 2147483647 4294967295 z (omega arith) (omega arith) e

coordinate_result : (z : ℤ) → is_coordinate z ≡ true → result_of z ≡ value z
unfolding is_coordinate result_of
coordinate_result z e = rw (wider 1073741823 1073741823 2147483647 2147483647 z (omega arith) (omega arith) e)

-- the line from a point has the point's own Y there
from_point : (p q : Point) → is_point p ≡ true → is_point q ≡ true → lt_z p.x q.x ≡ true → line_at p q p.x ≡ value p.y
unfolding is_segment is_point
from_point p q h k l =
    sym (line_is p q p.x (and_both h (and_both k l)) (coordinate_raw p.x (and_left (is_coordinate p.x) (is_coordinate p.y) h)))
    ∙ ap result_of (through_first p q)
    ∙ coordinate_result p.y (and_right (is_coordinate p.x) (is_coordinate p.y) h)

-- a curve of sound points, no two of them with one X
module _ (xs ys : List ℤ) (sound : (i : ℕ) → i < length xs → is_point (point_numbered xs ys i) ≡ true)
    (apart : (i j : ℕ) → i < length xs → j < length xs → get_or xs i (pos 0) ≡ get_or xs j (pos 0) → i ≡ j) (k : ℕ) (h : k < length xs) where
  itself : not_above xs (get_or xs k (pos 0)) ≡ Some k
  unfolding passes nearer
  itself = by (not_above xs (get_or xs k (pos 0))) (not_above_nearest xs (get_or xs k (pos 0)))
    where
      by : (f : Option ℕ) → Nearest NotAbove xs (get_or xs k (pos 0)) (length xs) f → f ≡ Some k
      by (Some i) g = ap Some (apart i k g.0 h (le_not_lt (get_or xs i (pos 0)) (get_or xs k (pos 0)) g.1 (g.2 k h (le_refl (get_or xs k (pos 0))))))
      by None g = absurd (g k h (le_refl (get_or xs k (pos 0))))

  pub at_point_lem : (ends : OffEnds) → curve_at ends xs ys (get_or xs k (pos 0)) ≡ value (get_or ys k (pos 0))
  unfolding curve_at placed passes through point_numbered
  at_point_lem ends = rw itself (by (above xs (get_or xs k (pos 0))) (above_nearest xs (get_or xs k (pos 0))))
    where
      by : (f : Option ℕ) → Nearest Above xs (get_or xs k (pos 0)) (length xs) f → placed ends xs ys (get_or xs k (pos 0)) (Some k) f ≡ value (get_or ys k (pos 0))
      by (Some j) g = from_point (point_numbered xs ys k) (point_numbered xs ys j) (sound k h) (sound j g.0) g.1
      by None g = sym (at_last xs ys (get_or xs k (pos 0)) ends k (lt_irrefl (get_or xs k (pos 0))))
