-- No two rows of tables are of one table and have one number.
use mathlib.Core.Path.{◌≡◌, refl, sym, ap}
use mathlib.Core.Logic.{◌⊎◌, inl, inr}
use mathlib.Core.Bool.{Bool}
use mathlib.Core.List.Memᴰ
use mathlib.Core.List.{List, [], ◌∷◌, ◌++◌, Memᴰ}
use Prim.Native.Nat.{ℕ, zero, suc, ◌+◌, ◌<◌}
use native.Mathlib.Omega.{arith}
use native.Mathlib.Nat.{le_of_suc-le-suc, not-suc-le-zero}
use lib.ListN.{length, get_or}
use Rattle.laws.specs.Lists.{keep}
use Rattle.laws.proofs.Cases.{cond_cases}
use Rattle.laws.proofs.Lists.{at_mem}
use Rattle.laws.proofs.Tests.{keep_mem}
use Rattle.lines.specs.Lines.{Line, lines_of}
use Rattle.schemas.specs.declared.Table.{Table}
use Rattle.verdicts.specs.Entries.{carried}
use Rattle.database.specs.Rows.{Row}
use Rattle.database.specs.GoodRows.{rows_of, rows_from, rows_in, is_good, good_rows}
use Rattle.database.proofs.RowLaws.{in_table, in_tables}

abbrev pub Same : Row → Row → Type 0
Same a b = (a.table ≡ b.table) × (a.number ≡ b.number)

pub data Distinct : List Row → Type 0 where
  nothing : Distinct []
  more : {x : Row} {l : List Row} → ((y : Row) → Memᴰ y l → Same x y → ⊥) → Distinct l → Distinct (x ∷ l)

pub keep_distinct : (f : Row → Bool) (l : List Row) → Distinct l → Distinct (keep f l)
keep_distinct f [] nothing = nothing
keep_distinct f (x ∷ l) (more h d) =
    cond_cases (λ (k : List Row). Distinct k) (f x) (λ _. more (λ y m. h y (keep_mem f l m).0) (keep_distinct f l d)) (λ _. keep_distinct f l d)

append_distinct : (a b : List Row) → Distinct a → Distinct b → ((x y : Row) → Memᴰ x a → Memᴰ y b → Same x y → ⊥) → Distinct (a ++ b)
append_distinct [] b nothing e h = e
append_distinct (x ∷ a) b (more g d) e h =
    more (λ y m. by y (Memᴰ.append_cases a m)) (append_distinct a b d e (λ x y i. h x y (Memᴰ.tail i)))
  where
    by : (y : Row) → Memᴰ y a ⊎ Memᴰ y b → Same x y → ⊥
    by y (inl i) = g y i
    by y (inr i) = h x y (Memᴰ.head refl) i

table_distinct : (t r start : ℕ) (ls : List Line) → Distinct (rows_of t r start ls)
unfolding rows_of
table_distinct t r start [] = nothing
table_distinct t r start (l ∷ ls) =
    more {x = record { table = t; number = r; start = start; bytes = l.bytes }}
    (λ y m s. omega (arith, s.1, (in_table t (suc r) (start + length l.bytes + 1) ls y m).1))
    (table_distinct t (suc r) (start + length l.bytes + 1) ls)

tables_distinct : (t : ℕ) (tables : List Table) (texts : List (List ℕ)) → Distinct (rows_from t tables texts)
unfolding rows_from
tables_distinct t [] texts = nothing
tables_distinct t (table ∷ tables) [] = nothing
tables_distinct t (table ∷ tables) (text ∷ texts) =
    append_distinct (rows_of t 1 0 (lines_of text)) (rows_from (suc t) tables texts) (table_distinct t 1 0 (lines_of text)) (tables_distinct (suc t) tables texts)
    (λ x y i j s. omega (arith, s.0, (in_table t 1 0 (lines_of text) x i).0, (in_tables (suc t) tables texts y j).0))

pub good_distinct : (texts : List (List ℕ)) → Distinct (good_rows texts)
unfolding good_rows rows_in
good_distinct texts = keep_distinct (is_good texts) (rows_in texts) (tables_distinct 0 carried texts)

-- so that one row stands at one index only
pub one_index : (l : List Row) → Distinct l → (d : Row) (i j : ℕ) → i < length l → j < length l → Same (get_or l i d) (get_or l j d) → i ≡ j
one_index [] nothing d i j h k s = absurd (not-suc-le-zero h)
one_index (x ∷ l) (more g m) d zero zero h k s = refl
one_index (x ∷ l) (more g m) d zero (suc j) h k s = absurd (g (get_or l j d) (at_mem l j d (le_of_suc-le-suc k)) s)
one_index (x ∷ l) (more g m) d (suc i) zero h k s = absurd (g (get_or l i d) (at_mem l i d (le_of_suc-le-suc h)) (sym s.0, sym s.1))
one_index (x ∷ l) (more g m) d (suc i) (suc j) h k s = ap suc (one_index l m d i j (le_of_suc-le-suc h) (le_of_suc-le-suc k) s)
