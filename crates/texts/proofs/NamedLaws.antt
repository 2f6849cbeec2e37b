-- The bytes of a text are ALTXT of the row that it names.
use mathlib.Core.Path.{◌≡◌, refl, ap}
use mathlib.Core.Bool.{Bool, true, false, cond}
use mathlib.Core.List.{List, [], ◌∷◌, map}
use mathlib.Core.Option.{Option, none, some}
use Rattle.std.specs.Prelude.{Some, None}
use Rattle.std.specs.Prelude as rust
use Prim.Native.Nat.{ℕ, zero, suc}
use native.Mathlib.Omega.{arith}
use lib.IntN.{ℤ}
use lib.ListN.{get_elem?}
use lib.Signed.{lt_z}
use Rattle.name_bytes.specs.declared.CurveName.{CurveName}
use Rattle.decoding.specs.Records.{column}
use Rattle.string_fields.specs.Text.{part_at}
use Rattle.verdicts.specs.Key.{texts}
use Rattle.verdicts.specs.Places.{text_at}
use Rattle.calibration.specs.Nearest.{not_above}
use Rattle.outcomes.specs.Outcome.{answer, refused}
use Rattle.database.specs.Rows.{Row}
use Rattle.database.specs.Arrays.{Database, row_at, keyed_by, first_column, group_places, answers}
use Rattle.texts.specs.Texts.{Text, from_of, to_of, altxt_of, found_in, text_in, text_for}
use Rattle.texts.proofs.AltxtLaws.{altxt_bytes}

-- a text is that of a row among these: its number, and ALTXT as the part of the row's table at the place
pub record Names (tables : List (List ℕ)) (rows : List Row) (t : Text) : Type 0 where
  pub row : Row
  pub at : ℕ
  pub there : get_elem? rows at ≡ some row
  pub number : t.row ≡ row.number
  pub bytes : part_at (text_at tables row.table) t.start t.bytes ≡ column row.bytes 3

-- an element of a list that is mapped
mapped : {A B : Type 0} (g : A → B) (l : List A) (i : ℕ) {b : B} → get_elem? (map g l) i ≡ some b → (a : A) × (b ≡ g a)
mapped g [] i e = absurd (let z : ◌≡◌ {A = ℕ} 0 1 = cc in omega arith)
mapped g (a ∷ l) zero e = (a, cc)
mapped g (a ∷ l) (suc i) e = mapped g l i e

module _ (tables : List (List ℕ)) (columns places : List ℕ) (raw : ℤ) {t : Text} where
  of_row : (i : ℕ) (row : Row) → get_elem? (map (row_at tables columns) places) i ≡ some row → text_in (some row) raw ≡ answer t
      → Names tables (map (row_at tables columns) places) t
  unfolding text_in row_at altxt_of
  of_row i row r e =
      let is : t ≡ altxt_of row = reached (lt_z (to_of row) raw) e in
      let p = mapped (row_at tables columns) places i r in
      record {
        row = row;
        at = i;
        there = r;
        number = ap (λ (u : Text). u.row) is;
        bytes = rw is (altxt_bytes (text_at tables row.table) row (rw p.1));
      }
    where
      reached : (below : Bool) → cond below (refused 32 0) (answer (altxt_of row)) ≡ answer t → t ≡ altxt_of row
      reached true e = absurd (let z : ◌≡◌ {A = ℕ} 0 1 = cc in omega arith)
      reached false e = cc

  of_found : (f : rust.Option ℕ) → text_in (found_in (map (row_at tables columns) places) f) raw ≡ answer t → Names tables (map (row_at tables columns) places) t
  unfolding found_in text_in
  of_found None e = absurd (let z : ◌≡◌ {A = ℕ} 0 1 = cc in omega arith)
  of_found (Some i) e = by (get_elem? (map (row_at tables columns) places) i) refl e
    where
      by : (o : Option Row) → get_elem? (map (row_at tables columns) places) i ≡ o → text_in o raw ≡ answer t → Names tables (map (row_at tables columns) places) t
      by none q e = absurd (let z : ◌≡◌ {A = ℕ} 0 1 = cc in omega arith)
      by (some row) q e = of_row i row q e

pub text_bytes : (d : Database) (name : CurveName) (raw : ℤ) {t : Text} → text_for (answers d) name raw ≡ answer t
    → Names d.texts ((answers d).members (texts name)) t
unfolding text_for answers
text_bytes d name raw e =
    let places : List ℕ = group_places d.columns (keyed_by d.words d.links d.columns first_column (texts name)) in
    of_found d.texts d.columns places raw (not_above (map from_of (map (row_at d.texts d.columns) places)) raw) e
