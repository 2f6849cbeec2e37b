-- The rows of tables: a row that was found, and where each stands.
use mathlib.Core.Path.{◌≡◌, refl}
use mathlib.Core.Logic.{◌⊎◌, inl, inr}
use mathlib.Core.Bool.{Bool, true, false, cond}
use mathlib.Core.List.Memᴰ
use mathlib.Core.List.{List, [], ◌∷◌, Memᴰ}
use mathlib.Core.Option.{some}
use Prim.Native.Nat.{ℕ, suc, ◌+◌, ◌-◌, ◌≤◌, ◌<◌}
use native.Mathlib.Omega.{arith}
use lib.ListN.{length, get_or}
use Rattle.lines.specs.Lines.{Line, lines_of}
use Rattle.schemas.specs.declared.Table.{Table}
use Rattle.verdicts.specs.Places.{text_at, no_line}
use Rattle.database.specs.Rows.{Row}
use Rattle.database.specs.GoodRows.{rows_of, rows_from, find}

-- a row that was found is one of the rows, and passes
pub found_passes : (passes : Row → Bool) (rows : List Row) (r : Row) → find passes rows ≡ some r → Memᴰ r rows × (passes r ≡ true)
unfolding find
found_passes passes [] r e = absurd (let z : ◌≡◌ {A = ℕ} 0 1 = cc in omega arith)
found_passes passes (x ∷ rows) r e = by (passes x) refl e (found_passes passes rows r)
  where
    by : (b : Bool) → passes x ≡ b → cond b (some x) (find passes rows) ≡ some r → (find passes rows ≡ some r → Memᴰ r rows × (passes r ≡ true))
        → Memᴰ r (x ∷ rows) × (passes r ≡ true)
    by true t e ih = let q : r ≡ x = cc in (Memᴰ.head q, cc)
    by false t e ih = let h = ih e in (Memᴰ.tail h.0, h.1)

-- Where a row stands

abbrev pub InTable : (t r : ℕ) → List Line → Row → Type 0
InTable t r ls row =
    (row.table ≡ t) × (r ≤ row.number) × (row.number < r + length ls) × (row.bytes ≡ (get_or ls (row.number - r) no_line).bytes)

pub in_table : (t r start : ℕ) (ls : List Line) (row : Row) → Memᴰ row (rows_of t r start ls) → InTable t r ls row
unfolding rows_of
in_table t r start [] row m = absurd (Memᴰ.not-nil m)
in_table t r start (l ∷ ls) row (Memᴰ.head q) =
    let z : r - r ≡ 0 = omega arith in
    rw (q, z) (refl, omega arith, omega arith, refl)
in_table t r start (l ∷ ls) row (Memᴰ.tail m) =
    let w = in_table t (suc r) (start + length l.bytes + 1) ls row m in
    let n : row.number - r ≡ suc (row.number - suc r) = omega (arith, w.1) in
    (w.0, omega (arith, w.1), omega (arith, w.2), rw n w.3)

abbrev pub InTables : ℕ → List Table → List (List ℕ) → Row → Type 0
InTables t tables texts row =
    (t ≤ row.table) × (row.table < t + length tables) × (0 < row.number) × (row.number ≤ length (lines_of (text_at texts (row.table - t))))
    × (row.bytes ≡ (get_or (lines_of (text_at texts (row.table - t))) (row.number - 1) no_line).bytes)

pub in_tables : (t : ℕ) (tables : List Table) (texts : List (List ℕ)) (row : Row) → Memᴰ row (rows_from t tables texts) → InTables t tables texts row
unfolding rows_from
in_tables t [] texts row m = absurd (Memᴰ.not-nil m)
in_tables t (table ∷ tables) [] row m = absurd (Memᴰ.not-nil m)
in_tables t (table ∷ tables) (text ∷ texts) row m = go (in_tables (suc t) tables texts row) (Memᴰ.append_cases (rows_of t 1 0 (lines_of text)) m)
  where
    go : (Memᴰ row (rows_from (suc t) tables texts) → InTables (suc t) tables texts row)
        → Memᴰ row (rows_of t 1 0 (lines_of text)) ⊎ Memᴰ row (rows_from (suc t) tables texts) → InTables t (table ∷ tables) (text ∷ texts) row
    go ih (inl m') =
        let w = in_table t 1 0 (lines_of text) row m' in
        let z : row.table - t ≡ 0 = omega (arith, w.0) in
        (omega (arith, w.0), omega (arith, w.0), omega (arith, w.1), rw z (omega (arith, w.2)), rw z w.3)
    go ih (inr m') =
        let w = ih m' in
        let n : row.table - t ≡ suc (row.table - suc t) = omega (arith, w.0) in
        (omega (arith, w.0), omega (arith, w.1), w.2, rw n w.3, rw n w.4)
