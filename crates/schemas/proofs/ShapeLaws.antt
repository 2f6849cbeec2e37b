-- The walk over a row's columns, and the cases of a row's shape.
use mathlib.Core.Path.{◌≡◌, refl, ap, sym, ◌∙◌}
use mathlib.Core.List.{List, [], ◌∷◌}
use mathlib.Core.Bool.{Bool, true, false, not, cond, ◌||◌}
use Prim.Native.Nat.{ℕ, zero, suc, ◌+◌, ◌≤◌, ◌<◌}
use native.Mathlib.Omega.{arith}
use native.Mathlib.Numerals.{add-one}
use native.Mathlib.Nat.{add-zero}
use lib.Dec.{eqb, ltb}
use lib.ListN.{length, get_or, drop, drop_of_length-le}
use borrow.Author.Tests.{eq-eqb, ne_eqb, eqb-true, lt-ltb, le-ltb}
use Rattle.laws.proofs.Lists.{split}
use Rattle.laws.proofs.Cases.{bool_cases}
use Rattle.lines.specs.declared.columns.Scanned.{Scanned}
use Rattle.lines.specs.Columns.{columns_of, divided, foreign_in, column_in}
use Rattle.lines.proofs.ColumnLaws.{column_is}
use Rattle.column_checks.specs.Schema.{Column, text}
use Rattle.schemas.specs.Tables.{schema, pid, pic, plf, pcf, caf, cap, txf, txp, ocf, ocp, mcf}
use Rattle.schemas.specs.declared.Table.{Table}
use Rattle.schemas.specs.declared.Table.TheVariants.{Pid, Pic, Plf, Pcf, Caf, Cap, Txf, Txp, Ocf, Ocp, Mcf}
use Rattle.schemas.specs.Reasons.{reason_at, or_later, first_reason, reason_from, longest_row, line_of, shape, shape_by}
use Rattle.column_checks.specs.ColumnReasons.{column_reason}
use Rattle.schemas.specs.Constants.{Alike, schema_from}
use Rattle.column_checks.specs.ColumnKinds.{column_from}

-- ---- a schema by its constants

pub schema_length : (ws ms ks : List ℕ) → length ms ≡ length ws → length ks ≡ length ws → length (schema_from ws ms ks) ≡ length ws
unfolding schema_from
schema_length [] ms ks p q = refl
schema_length (w ∷ ws) [] ks p q = absurd (omega arith)
schema_length (w ∷ ws) (m ∷ ms) [] p q = absurd (omega arith)
schema_length (w ∷ ws) (m ∷ ms) (k ∷ ks) p q = ap suc (schema_length ws ms ks (omega arith) (omega arith))

pub schema_at : (ws ms ks : List ℕ) → length ms ≡ length ws → length ks ≡ length ws → (i : ℕ) → i < length ws
    → get_or (schema_from ws ms ks) i (text 0) ≡ column_from (get_or ws i 0) (get_or ms i 0) (get_or ks i 0)
unfolding schema_from
schema_at [] ms ks p q i h = absurd (omega arith)
schema_at (w ∷ ws) [] ks p q i h = absurd (omega arith)
schema_at (w ∷ ws) (m ∷ ms) [] p q i h = absurd (omega arith)
schema_at (w ∷ ws) (m ∷ ms) (k ∷ ks) p q zero h = refl
schema_at (w ∷ ws) (m ∷ ms) (k ∷ ks) p q (suc i) h = schema_at ws ms ks (omega arith) (omega arith) i (omega arith)

-- no table has more columns than there is room for
pub schema_few : (table : Table) → length (schema table) ≤ 24
unfolding schema pid pic plf pcf caf cap txf txp ocf ocp mcf
schema_few Pid = omega arith
schema_few Pic = omega arith
schema_few Plf = omega arith
schema_few Pcf = omega arith
schema_few Caf = omega arith
schema_few Cap = omega arith
schema_few Txf = omega arith
schema_few Txp = omega arith
schema_few Ocf = omega arith
schema_few Ocp = omega arith
schema_few Mcf = omega arith

-- ---- the columns in turn: k of them have no reason, and what is left gives the verdict of all

pub record Checking (columns : List Column) (at : ℕ → List ℕ) (k : ℕ) : Type 0 where
  pub below : k ≤ length columns
  pub same : reason_from k (drop k columns) at ≡ reason_from 0 columns at

pub checking_start : (columns : List Column) (at : ℕ → List ℕ) → Checking columns at 0
checking_start columns at = record { below = omega arith; same = refl }

module _ (ws ms ks : List ℕ) (alike : Alike ws ms ks) (at : ℕ → List ℕ) (k : ℕ) (c : Checking (schema_from ws ms ks) at k) where
  size : length (schema_from ws ms ks) ≡ length ws
  size = schema_length ws ms ks alike.marked alike.kinded

  pub checking_end : length ws ≤ k → 0 ≡ reason_from 0 (schema_from ws ms ks) at
  unfolding reason_from
  checking_end h =
      let l : length (schema_from ws ms ks) ≤ k = omega (arith, size) in
      sym (rw (drop_of_length-le (schema_from ws ms ks) l)) ∙ c.same

  module _ (h : k < length ws) (r : ℕ) (is : r ≡ column_reason (column_from (get_or ws k 0) (get_or ms k 0) (get_or ks k 0)) (at k)) where
    step : or_later r (k + 1) (reason_from (k + 1) (drop (k + 1) (schema_from ws ms ks)) at) ≡ reason_from 0 (schema_from ws ms ks) at
    unfolding reason_from
    step =
        sym
        (rw (split (schema_from ws ms ks) k (text 0) (omega (arith, size)), schema_at ws ms ks alike.marked alike.kinded k h, ← is, add-one k))
        ∙ c.same

    -- a reason ends the walk there
    pub checking_stop : (r ≡ 0 → ⊥) → reason_at r (k + 1) ≡ reason_from 0 (schema_from ws ms ks) at
    checking_stop z = sym (rw (ne_eqb r 0 z)) ∙ step

    pub checking_more : r ≡ 0 → Checking (schema_from ws ms ks) at (k + 1)
    checking_more z = record { below = omega (arith, size); same = sym (rw (eq-eqb r 0 z)) ∙ step }

-- ---- the whole row

module _ (columns : List Column) (walk : Scanned) (bytes : ℕ) (at : ℕ → List ℕ) where
  pub shape_open : walk.ended ≡ false → 256 ≡ shape_by columns walk bytes at
  unfolding shape_by
  shape_open e = rw e

  module _ (e : walk.ended ≡ true) where
    pub shape_long : 512 < bytes → 256 ≡ shape_by columns walk bytes at
    unfolding shape_by
    shape_long h = rw (e, lt-ltb 512 bytes h)

    module _ (h : bytes ≤ 512) where
      pub shape_foreign : walk.foreign ≡ true → 512 ≡ shape_by columns walk bytes at
      unfolding shape_by
      shape_foreign f = rw (e, le-ltb 512 bytes h, f)

      module _ (f : walk.foreign ≡ false) where
        pub shape_count : (walk.count ≡ length columns → ⊥) → 768 ≡ shape_by columns walk bytes at
        unfolding shape_by
        shape_count n = rw (e, le-ltb 512 bytes h, f, ne_eqb walk.count (length columns) n)

        pub shape_columns : walk.count ≡ length columns → reason_from 0 columns at ≡ shape_by columns walk bytes at
        unfolding shape_by
        shape_columns n = rw (e, le-ltb 512 bytes h, f, eq-eqb walk.count (length columns) n)

-- ---- a line that was walked over

reason_texts : (k : ℕ) (cs : List Column) (at : ℕ → List ℕ) (texts : List (List ℕ)) → length texts ≡ length cs
    → ((j : ℕ) → j < length cs → at (k + j) ≡ get_or texts j []) → reason_from k cs at ≡ first_reason (suc k) cs texts
unfolding reason_from first_reason
reason_texts k [] at texts n e = refl
reason_texts k (c ∷ cs) at [] n e = absurd (omega arith)
reason_texts k (c ∷ cs) at (t ∷ texts) n e =
    let first : at k ≡ t = ap at (sym (add-zero k)) ∙ e 0 (omega arith) in
    let next : (j : ℕ) → j < length cs → at (suc k + j) ≡ get_or texts j [] = λ j h. ap at (omega arith) ∙ e (suc j) (omega arith) in
    rw (first, reason_texts (suc k) cs at texts (omega arith) next)

-- THE LAW OF SHAPES: what a walk over a line told gives the line's shape
pub shape_walked : (columns : List Column) → length columns ≤ 24 → (line ends : List ℕ) → ends ≡ divided line → (walk : Scanned) → (ended : Bool)
    → walk.ended ≡ ended → walk.count ≡ length (columns_of line) → walk.foreign ≡ foreign_in line
    → shape_by columns walk (length line) (column_in line ends) ≡ shape columns (line_of line ended)
unfolding shape_by shape
shape_walked columns few line ends e walk ended p q f =
    rw (p, q, f)
    (ap (λ (v : ℕ). cond (not ended || ltb longest_row (length line)) (reason_at 1 0) (cond (foreign_in line) (reason_at 2 0) v))
    (bool_cases (eqb (length (columns_of line)) (length columns))
    (λ t. rw t (reason_texts 0 columns (column_in line ends) (columns_of line) (eqb-true _ _ t)
    (λ j h. ap (column_in line ends) (omega arith) ∙ column_is line ends j e (omega arith))))
    (λ n. rw n)))
