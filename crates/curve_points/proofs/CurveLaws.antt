-- A curve's rows, case by case.
use mathlib.Core.Path.{◌≡◌, ap, sym, ◌∙◌}
use mathlib.Core.Bool.{Bool, true, false}
use mathlib.Core.List.{List, [], map}
use mathlib.Core.Option.{some}
use Rattle.std.specs.Prelude.{Option, Some, None}
use Prim.Native.Nat.{ℕ, ◌-◌, ◌≤◌}
use lib.IntN.{ℤ}
use lib.ListN.{length}
use lib.Seq.{sets}
use Rattle.name_bytes.specs.declared.CurveName.{CurveName}
use Rattle.decoding.specs.Records.{caf_row, cap_row}
use Rattle.rows.specs.declared.letters.OffEnds.{OffEnds}
use Rattle.rows.specs.declared.records.CafRow.{CafRow}
use Rattle.rows.specs.declared.records.CapRow.{CapRow}
use Rattle.symbols.specs.declared.Symbol.{Symbol}
use Rattle.verdicts.specs.Key.{curve}
use Rattle.key_symbols.specs.Keyed.{symbol_of}
use Rattle.key_symbols.specs.Bounded.{key_fits}
use Rattle.database.specs.Rows.{Row, Rows}
use Rattle.database.specs.Kinds.{is_polynomial}
use Rattle.database.specs.Arrays.{database, holder_column, row_at, keyed, answers}
use Rattle.database.proofs.FindLaws.{holder_none, holder_some}
use Rattle.database.proofs.KindLaws.{kind_is}
use Rattle.curve_points.specs.Curves.{curve_ends, xvals_of, yvals_of, curve_of}
use Rattle.curve_points.specs.Points.{curve_in, points_of}
use Rattle.database.proofs.GatherLaws.{front_filled}

-- the row that holds the curve's key
module _ (texts : List (List ℕ)) (words links columns : List ℕ) (name : CurveName) {s : Symbol}
    (k : (s ≡ symbol_of (curve name)) × (key_fits (curve name) ≡ true))
    {at : ℕ} (e : at ≡ keyed words links columns holder_column s) where
  pub ends_none : at ≡ 0 → None ≡ curve_ends ((answers (database texts words links columns)).holder (curve name))
  unfolding curve_ends
  ends_none z = sym (ap curve_ends (holder_none texts words links columns (curve name) s k.0 k.1 at e z))

  -- a polynomial, or a row of caf
  module _ (z : at ≡ 0 → ⊥) {kind : Bool} (is : kind ≡ is_polynomial (row_at [] columns (at - 1))) where
    abbrev row : Row
    row = row_at texts columns (at - 1)

    holder : (answers (database texts words links columns)).holder (curve name) ≡ some row
    holder = holder_some texts words links columns (curve name) s k.0 k.1 at e z

    pub ends_polynomial : kind ≡ true → None ≡ curve_ends ((answers (database texts words links columns)).holder (curve name))
    unfolding curve_ends
    ends_polynomial t = sym (ap curve_ends holder ∙ rw (kind_is texts columns (at - 1) is t))

    pub ends_some : kind ≡ false → {read : CafRow} → read ≡ caf_row row.bytes
        → Some read.inter ≡ curve_ends ((answers (database texts words links columns)).holder (curve name))
    unfolding curve_ends
    ends_some f r =
        ap (λ (read : CafRow). Some read.inter) r ∙ sym (ap curve_ends holder ∙ rw (kind_is texts columns (at - 1) is f))

-- a point's row, read
module _ (row : Row) {point : CapRow} (e : point ≡ cap_row row.bytes) where
  pub xvals_are : point.xvals ≡ xvals_of row
  unfolding xvals_of
  xvals_are = ap (λ (p : CapRow). p.xvals) e

  pub yvals_are : point.yvals ≡ yvals_of row
  unfolding yvals_of
  yvals_are = ap (λ (p : CapRow). p.yvals) e

-- the points that were gathered
pub points_are : (rows : Rows) (name : CurveName) {ends : Option OffEnds} {n : ℕ} → ends ≡ curve_ends (rows.holder (curve name)) → n ≡ length (rows.members (curve name))
    → record { ends = ends; count = n } ≡ points_of rows name
unfolding points_of
points_are rows name e n = rw (e, n)

-- they make the curve, in arrays that have room for them
pub gathered_curve : (rows : Rows) (name : CurveName) (xs ys : List ℤ) → (let points = rows.members (curve name) in
    length points ≤ length xs → length points ≤ length ys
    → curve_in (points_of rows name) (sets xs 0 (map xvals_of points)) (sets ys 0 (map yvals_of points)) ≡ curve_of rows name)
unfolding curve_in curve_of points_of
gathered_curve rows name xs ys h k =
    let points : List Row = rows.members (curve name) in rw (front_filled xvals_of points xs h, front_filled yvals_of points ys k)
