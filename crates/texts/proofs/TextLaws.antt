-- Texts case by case.
use mathlib.Core.Path.{◌≡◌, ap, subst}
use mathlib.Core.Bool.{true, false}
use mathlib.Core.List.{List, map}
use mathlib.Core.Option.{some}
use Rattle.std.specs.Prelude.{Some, None}
use Prim.Native.Nat.{ℕ, ◌+◌, ◌-◌, ◌≤◌, ◌<◌}
use native.Mathlib.Omega.{arith}
use lib.IntN.{ℤ}
use lib.ListN.{length, get_elem?, take, length-take}
use lib.Signed.{lt_z}
use Rattle.name_bytes.specs.declared.CurveName.{CurveName}
use Rattle.decoding.specs.Records.{txp_row}
use Rattle.rows.specs.declared.records.TxpRow.{TxpRow}
use Rattle.verdicts.specs.Key.{texts}
use Rattle.calibration.specs.Nearest.{not_above}
use Rattle.calibration.specs.declared.nearest.Side.TheVariants.{NotAbove}
use Rattle.calibration.proofs.NearestOf.{Nearest, not_above_nearest}
use Rattle.outcomes.specs.Outcome.{answer, refused}
use Rattle.database.specs.Rows.{Row, Rows}
use Rattle.texts.specs.Texts.{from_of, to_of, altxt_of, found_in, text_in, text_for}

-- a range's row, read
module _ (row : Row) {range : TxpRow} (read : range ≡ txp_row row.bytes) where
  pub from_is : range.from ≡ from_of row
  unfolding from_of
  from_is = ap (λ (r : TxpRow). r.from) read

  pub to_is : range.to ≡ to_of row
  unfolding to_of
  to_is = ap (λ (r : TxpRow). r.to) read

  module _ (raw : ℤ) where
    pub text_below : lt_z (to_of row) raw ≡ true → refused 32 0 ≡ text_in (some row) raw
    unfolding text_in
    text_below t = rw t

    pub text_reached : lt_z (to_of row) raw ≡ false → {number start : ℕ} → number ≡ row.number → start ≡ row.start
        → answer (record { row = number; start = start + range.start; bytes = range.end - range.start }) ≡ text_in (some row) raw
    unfolding text_in altxt_of
    text_reached f n s = rw (f, n, s, read)

-- the text of a raw value, by what is found among the FROM of its rows
module _ (rows : Rows) (name : CurveName) (raw : ℤ) where
  pub text_none : not_above (map from_of (rows.members (texts name))) raw ≡ None → refused 32 0 ≡ text_for rows name raw
  unfolding text_for text_in found_in
  text_none e = rw e

  pub text_some : {i : ℕ} {row : Row} {z : ℤ} → not_above (map from_of (rows.members (texts name))) raw ≡ Some i
      → get_elem? (rows.members (texts name)) i ≡ some row → z ≡ raw
      → text_in (some row) z ≡ text_for rows name raw
  unfolding text_for found_in
  text_some e r q = rw (e, r, q)

-- what is found among the first n
pub found_below : (xs : List ℤ) (v : ℤ) (n : ℕ) {i : ℕ} → n ≤ length xs → not_above (take n xs) v ≡ Some i → i < n
found_below xs v n h e =
    omega (arith, (subst (Nearest NotAbove (take n xs) v (length (take n xs))) e (not_above_nearest (take n xs) v)).0, length-take n xs)
