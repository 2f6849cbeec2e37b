-- At least as many rows pass one test as entries pass another, where the row of every entry that passes does.
use mathlib.Core.Path.{◌≡◌, refl, ap}
use mathlib.Core.Bool.{Bool, true, false, cond, ◌&&◌}
use mathlib.Core.List.Memᴰ
use mathlib.Core.List.{List, [], ◌∷◌, ◌++◌, Memᴰ}
use Prim.Native.Nat.{ℕ, suc, ◌+◌, ◌≤◌}
use native.Mathlib.Omega.{arith}
use lib.ListN.{length}
use Rattle.laws.specs.Lists.{keep}
use Rattle.laws.proofs.Cases.{false≢true}
use Rattle.lines.specs.Lines.{Line, lines_of}
use Rattle.schemas.specs.declared.Table.{Table}
use Rattle.verdicts.specs.Entries.{Entry, entry, entries_of, entries_from, carried, all_rows}
use Rattle.database.specs.Rows.{Row}
use Rattle.database.specs.GoodRows.{rows_of, rows_from, rows_in}

module _ {A : Type 0} where
  kept_append : (f : A → Bool) (a b : List A) → length (keep f (a ++ b)) ≡ length (keep f a) + length (keep f b)
  kept_append f [] b = omega arith
  kept_append f (x ∷ a) b = by (f x) (kept_append f a b)
    where
      by : (t : Bool) → length (keep f (a ++ b)) ≡ length (keep f a) + length (keep f b)
          → length (cond t (x ∷ keep f (a ++ b)) (keep f (a ++ b))) ≡ length (cond t (x ∷ keep f a) (keep f a)) + length (keep f b)
      by true e = omega arith
      by false e = e

  pub keep_twice : (f g : A → Bool) (l : List A) → keep g (keep f l) ≡ keep (λ a. f a && g a) l
  keep_twice f g [] = refl
  keep_twice f g (x ∷ l) = by (f x) (keep_twice f g l)
    where
      by : (t : Bool) → keep g (keep f l) ≡ keep (λ a. f a && g a) l
          → keep g (cond t (x ∷ keep f l) (keep f l)) ≡ cond (t && g x) (x ∷ keep (λ a. f a && g a) l) (keep (λ a. f a && g a) l)
      by true e = ap (λ (k : List A). cond (g x) (x ∷ k) k) e
      by false e = e

one_more_kept : {A B : Type 0} (a b : Bool) (x : A) (y : B) (l : List A) (k : List B) → (a ≡ true → b ≡ true) → length l ≤ length k
    → length (cond a (x ∷ l) l) ≤ length (cond b (y ∷ k) k)
one_more_kept true true x y l k h n = omega arith
one_more_kept true false x y l k h n = absurd (false≢true (h refl))
one_more_kept false true x y l k h n = omega arith
one_more_kept false false x y l k h n = n

-- the row of an entry
abbrev Rows : (f : Entry → Bool) (g : Row → Bool) → List Entry → List Row → Type 0
Rows f g es rows =
    (e : Entry) (row : Row) → Memᴰ e es → Memᴰ row rows → e.table ≡ row.table → e.row ≡ row.number → f e ≡ true → g row ≡ true

module _ (f : Entry → Bool) (g : Row → Bool) where
  in_one : (table : Table) (t r start : ℕ) (ls : List Line) → Rows f g (entries_of table t r ls) (rows_of t r start ls)
      → length (keep f (entries_of table t r ls)) ≤ length (keep g (rows_of t r start ls))
  unfolding entries_of rows_of
  in_one table t r start [] h = omega arith
  in_one table t r start (l ∷ ls) h =
      let e : Entry = entry table t r l in
      let row : Row = record { table = t; number = r; start = start; bytes = l.bytes } in
      one_more_kept (f e) (g row) e row (keep f (entries_of table t (suc r) ls)) (keep g (rows_of t (suc r) (start + length l.bytes + 1) ls))
      (h e row (Memᴰ.head refl) (Memᴰ.head refl) refl refl)
      (in_one table t (suc r) (start + length l.bytes + 1) ls (λ e row m i. h e row (Memᴰ.tail m) (Memᴰ.tail i)))

  in_all : (t : ℕ) (tables : List Table) (texts : List (List ℕ)) → Rows f g (entries_from t tables texts) (rows_from t tables texts)
      → length (keep f (entries_from t tables texts)) ≤ length (keep g (rows_from t tables texts))
  unfolding entries_from rows_from
  in_all t [] texts h = omega arith
  in_all t (table ∷ tables) [] h = omega arith
  in_all t (table ∷ tables) (text ∷ texts) h =
      let es : List Entry = entries_of table t 1 (lines_of text) in
      let rs : List Row = rows_of t 1 0 (lines_of text) in
      let a = in_one table t 1 0 (lines_of text)
      (λ e row m i. h e row (Memᴰ.append_left (entries_from (suc t) tables texts) m) (Memᴰ.append_left (rows_from (suc t) tables texts) i)) in
      let b = in_all (suc t) tables texts (λ e row m i. h e row (Memᴰ.append_right es m) (Memᴰ.append_right rs i)) in
      omega (arith, a, b, kept_append f es (entries_from (suc t) tables texts), kept_append g rs (rows_from (suc t) tables texts))

  pub rows_kept : (texts : List (List ℕ)) → Rows f g (all_rows texts) (rows_in texts) → length (keep f (all_rows texts)) ≤ length (keep g (rows_in texts))
  unfolding all_rows rows_in
  rows_kept texts h = in_all 0 carried texts h
