-- The verdicts of all rows: reasons 9 to 12 over what the rows say, and the order of the reasons.
use Rattle.std.specs.Prelude.{ℕ, zero, suc, Bool, false, not, cond, ◌&&◌, ◌||◌, List, map, eqb, length}
use Rattle.laws.specs.Lists.{any, keep, nonempty, or_else, first}
use Rattle.schemas.specs.Reasons.{reason_at as verdict_of}
use Rattle.verdicts.specs.Key.{Key}
use Rattle.verdicts.specs.Facts.{Kind, itself, through, Naming, Count}
use Rattle.verdicts.specs.Entries.{Entry, own, facts, all_rows}
use Rattle.verdicts.specs.Steps.{twin, holds, belongs, rivals, names_at}

-- 01: "9 key held by another row too, all holders alike"
unfoldable pub shared : List Entry → Entry → Bool
shared rows e = nonempty (keep (rivals e) rows)

-- without reasons 1 to 9
unfoldable pub sound : List Entry → Entry → Bool
sound rows e = eqb (own e.reading) 0 && not (shared rows e)

-- 01: "Only rows without reasons 1–9 hold keys for counting and chains"
unfoldable pub tally : List Entry → Key → ℕ
tally rows group = length (keep (λ o. belongs o group && sound rows o) rows)

-- 01: "10 count differs (count column)"
unfoldable pub count_cell : List Entry → Count → ℕ
count_cell rows c = cond (eqb (tally rows c.group) c.number) 0 (verdict_of 10 c.column)

-- the next row of a VALID chain, if there is one. 01: "For a VALID chain a row's conditions on PTC don't matter"
unfoldable pub follows : Entry → Entry → Bool
follows e o = any (λ n. holds o n.key && n.chained) (facts e).names

unfoldable pub next : List Entry → Entry → List Entry
next rows e = keep (λ o. follows e o && sound rows o) rows

-- within n steps of the chain from e comes z
unfoldable pub leads : ℕ → List Entry → Entry → Entry → Bool
leads zero rows e z = false
leads (suc n) rows e z = any (λ o. twin o z || leads n rows o z) (next rows e)

-- 01: "12 VALID chain returns to this row (column 8)". As many steps as there are rows are enough: see `circle_law`
unfoldable pub circle : List Entry → Entry → Bool
circle rows e = leads (length rows) rows e e

-- 01: "of the kind asked": the row itself meets a condition, or a second row does, one that this column of it names
unfoldable pub of_kind : List Entry → Kind → Entry → Bool
of_kind rows (itself c) o = (facts o).meets c
of_kind rows (through column c) o = any (λ q. (facts q).meets c) (keep (names_at column o) rows)

-- the rows that hold the key which a column names and are of the kind it asks for
unfoldable pub asked : List Entry → Naming → List Entry
asked rows n = keep (λ o. holds o n.key && of_kind rows n.kind o) rows

-- 01: "11 a named row isn't there, good and of the kind asked, lowest column"
unfoldable pub name_cell : List Entry → (Entry → Bool) → Naming → ℕ
name_cell rows good n = cond (any good (asked rows n)) 0 (verdict_of 11 n.column)

-- the verdict of a row, where it is known which rows are good. 01's order of reasons: 1 to 8, 9, 10, 12, 11
unfoldable pub judge : List Entry → (Entry → Bool) → Entry → ℕ
judge rows good e =
    or_else (own e.reading)
    (or_else (cond (shared rows e) (verdict_of 9 0) 0)
    (or_else (first (map (count_cell rows) (facts e).counts))
    (or_else (cond (circle rows e) (verdict_of 12 8) 0)
    (first (map (name_cell rows good) (facts e).names)))))

-- a row's verdict by rows that are good within n names of it
unfoldable pub within : ℕ → List Entry → Entry → ℕ
within zero rows e = 1
within (suc n) rows e = judge rows (λ o. eqb (within n rows o) 0) e

-- 01: "Good is 0". As many names as there are rows are enough: `verdict_law` has no such number
unfoldable pub verdict : List Entry → Entry → ℕ
verdict rows e = within (suc (length rows)) rows e

-- 01: "one cell per row, in table order"
unfoldable pub verdicts : List (List ℕ) → List ℕ
verdicts texts = map (verdict (all_rows texts)) (all_rows texts)
