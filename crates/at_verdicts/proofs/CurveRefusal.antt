-- Along a good curve through points 30 comes up exactly where the curve is F and the raw value is off its ends, and 31
-- exactly where the result is out of range.
use mathlib.Core.Path.{◌≡◌, refl, sym, ap, subst, ◌∙◌}
use mathlib.Core.Logic.{◌↔◌, ⊎_elim}
use mathlib.Core.Bool.{true, false, ◌&&◌}
use mathlib.Core.List.{List, [], map, Memᴰ}
use mathlib.Core.Option.{some}
use Prim.Native.Nat.{ℕ, ◌^◌, ◌<◌}
use native.Mathlib.Omega.{arith}
use lib.IntN.{ℤ, pos, neg_ℤ, nat_abs}
use lib.ListN.{length, get_or, length-map}
use lib.Signed.{le_z}
use Rattle.laws.proofs.Cases.{false≢true, and_both, or_left}
use Rattle.laws.proofs.Lists.{map_at, at_mem}
use Rattle.laws.proofs.Tests.{keep_mem}
use Rattle.lines.specs.Lines.{Line}
use Rattle.name_bytes.specs.declared.CurveName.{CurveName}
use Rattle.schemas.specs.declared.Table.{Table}
use Rattle.schemas.specs.declared.Table.TheVariants.{Cap}
use Rattle.column_checks.specs.Schema.{Column, ColumnKind, a_number, integer! }
use Rattle.schemas.specs.Tables.{schema, cap}
use Rattle.column_checks.specs.ColumnReasons.{kind_reason, column_reason}
use Rattle.schemas.proofs.Meaning.{Absent, Given, column_fine, number_fine}
use Rattle.decoding.specs.Records.{caf_row, cap_row}
use Rattle.rows.specs.Values.{integer_or}
use Rattle.formed.specs.Formed.{formed}
use Rattle.formed.proofs.Meaning.{column_passes, integer_column}
use Rattle.curves.specs.Line.{is_between, is_coordinate, is_point, is_raw}
use Rattle.calibration.specs.Curve.{point_numbered}
use Rattle.verdicts.specs.Key.{Key, curve, point}
use Rattle.verdicts.specs.Facts.{facts_of, cap_facts}
use Rattle.verdicts.proofs.KeyLaws.{same_key_self}
use Rattle.outcomes.specs.Outcome.{refused}
use Rattle.database.specs.Rows.{Row}
use Rattle.database.specs.GoodRows.{good_rows, table_of, holds_key, is_in_group, among, of_tables}
use Rattle.database.specs.Kinds.{is_polynomial}
use Rattle.curve_points.specs.Curves.{Curve, curve_ends, xvals_of, yvals_of, curve_by, curve_of}
use Rattle.curve_values.specs.Along.{along}
use Rattle.curve_values.specs.OffCurve.{is_off_curve}
use Rattle.curve_values.proofs.OffCurveLaws.{Sound, off_f_curve}
use Rattle.at_verdicts.specs.OutOfRange.{is_out_of_range}
use Rattle.at_verdicts.proofs.GoodRows.{good_line}
use Rattle.at_verdicts.proofs.Groups.{one_good}
use Rattle.at_verdicts.proofs.DistinctRows.{keep_distinct, good_distinct, one_index}
use Rattle.at_verdicts.proofs.CurvePoints.{in_curve, two_points}
use Rattle.at_verdicts.proofs.CurveRange.{out_of_range}

-- A coordinate. 01: "XVALS 14! and YVALS 14!, each −1,073,741,824 to 1,073,741,823"

integer_within : (c : Column) (t : List ℕ) (lowest highest default : ℤ) → c.kind ≡ a_number lowest highest → c.mandatory ≡ true → nat_abs lowest < 2 ^ 60
    → nat_abs highest < 2 ^ 60 → column_reason c t ≡ 0 → is_between lowest highest (integer_or default t) ≡ true
unfolding is_between
integer_within c t lowest highest default q m l h e = ⊎_elim absent given (column_fine c t e)
  where
    absent : Absent c t → (le_z lowest (integer_or default t) && le_z (integer_or default t) highest) ≡ true
    absent a = absurd (false≢true (sym a.optional ∙ m))

    given : Given c t → (le_z lowest (integer_or default t) && le_z (integer_or default t) highest) ≡ true
    given g =
        let k : kind_reason (a_number lowest highest) t ≡ 0 = ap (λ (k : ColumnKind). kind_reason k t) (sym q) ∙ g.kind_fits in
        let n = number_fine lowest highest t k in
        rw (integer_column lowest highest default t l h k) (and_both n.low n.high)

cap_point : (line : Line) → formed Cap line ≡ 0 → (is_coordinate (cap_row line.bytes).xvals && is_coordinate (cap_row line.bytes).yvals) ≡ true
unfolding cap_row schema cap is_coordinate
cap_point line e =
    let low : ℤ = neg_ℤ (pos 1073741824) in
    let high : ℤ = pos 1073741823 in
    and_both
    (integer_within (integer! 14 low high) _ low high (pos 0) refl refl (omega arith) (omega arith) (column_passes Cap line e 1 (omega arith)))
    (integer_within (integer! 14 low high) _ low high (pos 0) refl refl (omega arith) (omega arith) (column_passes Cap line e 2 (omega arith)))

-- A point of a curve

-- no row
abbrev no_row : Row
no_row = record { table = 0; number = 0; start = 0; bytes = [] }

record PointRow (texts : List (List ℕ)) (name : CurveName) (row : Row) : Type 0 where
  good : Memᴰ row (good_rows texts)
  fine : (is_coordinate (xvals_of row) && is_coordinate (yvals_of row)) ≡ true
  holds : holds_key (point name (xvals_of row)) row ≡ true

point_held : (name : CurveName) (row : Row) → table_of row ≡ Cap → (cap_row row.bytes).numbr ≡ name → holds_key (point name (xvals_of row)) row ≡ true
unfolding holds_key facts_of cap_facts xvals_of
point_held name row t n =
    let key : Key = point name (cap_row row.bytes).xvals in
    rw (t, n) (or_left false (same_key_self key))

point_row : (texts : List (List ℕ)) (name : CurveName) (row : Row) → Memᴰ row (good_rows texts) → is_in_group (curve name) row ≡ true → PointRow texts name row
unfolding is_in_group xvals_of yvals_of
point_row texts name row m i =
    let c = in_curve (table_of row) row.bytes name i in
    let l = good_line texts row m in
    let f : formed Cap l.line ≡ 0 = ap (λ (t : Table). formed t l.line) (sym c.0) ∙ l.passes in
    record {
      good = m;
      fine =
          subst (λ (bytes : List ℕ). (is_coordinate (cap_row bytes).xvals && is_coordinate (cap_row bytes).yvals) ≡ true) (sym l.bytes)
          (cap_point l.line f);
      holds = point_held name row c.0 c.1;
    }

-- The curve

module _ (texts : List (List ℕ)) (name : CurveName) where
  abbrev points : List Row
  points = (of_tables texts).members (curve name)

  point_at : (i : ℕ) → i < length points → PointRow texts name (get_or points i no_row)
  unfolding of_tables among
  point_at i h =
      let m = keep_mem (is_in_group (curve name)) (good_rows texts) (at_mem points i no_row h) in
      point_row texts name (get_or points i no_row) m.0 m.1

  -- 01: "Key NUMBR and the value of XVALS"
  one_point : (i j : ℕ) → i < length points → j < length points → xvals_of (get_or points i no_row) ≡ xvals_of (get_or points j no_row) → i ≡ j
  unfolding of_tables among
  one_point i j h k e =
      let a = point_at i h in
      let b = point_at j k in
      let p : Row = get_or points i no_row in
      let q : Row = get_or points j no_row in
      one_index points (keep_distinct (is_in_group (curve name)) (good_rows texts) (good_distinct texts)) no_row i j h k
      (one_good texts (point name (xvals_of p)) p q a.good b.good a.holds (ap (λ (x : ℤ). holds_key (point name x) q) e ∙ b.holds))

  module _ (row : Row) (found : (of_tables texts).holder (curve name) ≡ some row) (caf : is_polynomial row ≡ false) where
    -- the curve of a good caf row: its INTER and its good points
    abbrev pub good_curve : Curve
    good_curve = record { ends = (caf_row row.bytes).inter; xs = map xvals_of points; ys = map yvals_of points }

    pub curve_is : curve_of (of_tables texts) name ≡ some good_curve
    unfolding curve_of curve_by curve_ends
    curve_is = rw (found, caf)

    pub curve_sound : Sound (map xvals_of points) (map yvals_of points)
    unfolding is_point point_numbered
    curve_sound =
        let n : length (map xvals_of points) ≡ length points = length-map points xvals_of in
        record {
          two = omega (arith, two_points texts name row found caf);
          points = λ i h.
              let k : i < length points = omega arith in
              rw (map_at xvals_of points i no_row (pos 0) k, map_at yvals_of points i no_row (pos 0) k) (point_at i k).fine;
          apart = λ i j h k e.
              let h' : i < length points = omega arith in
              let k' : j < length points = omega arith in
              one_point i j h' k' (sym (map_at xvals_of points i no_row (pos 0) h') ∙ e ∙ map_at xvals_of points j no_row (pos 0) k');
        }

    -- 01: "30 … raw value off an F curve"
    pub curve_30 : (raw : ℤ) → is_raw raw ≡ true → (along (curve_of (of_tables texts) name) raw ≡ refused 30 0) ↔ (is_off_curve good_curve raw ≡ true)
    curve_30 raw is = let x = off_f_curve good_curve curve_sound raw is in rw curve_is (x.only, x.there)

    -- 01: "31 … curve result outside −2,147,483,648 to 2,147,483,647"
    pub curve_31 : (raw : ℤ) → is_raw raw ≡ true → (along (curve_of (of_tables texts) name) raw ≡ refused 31 0) ↔ (is_out_of_range good_curve raw ≡ true)
    curve_31 raw is = rw curve_is (out_of_range good_curve curve_sound raw is)
