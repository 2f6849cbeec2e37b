-- What an import answers, and what it leaves in the cells and positions.
use Rattle.std.specs.Prelude.{ℕ, suc, ◌*◌, min, Bool, cond, List, [], ◌∷◌, ◌++◌, eqb, ltb, length, drop}
use Rattle.laws.specs.Lists.{keep}
use Rattle.lines.specs.Lines.{lines_of}
use Rattle.verdicts.specs.Entries.{table_count, all_rows}
use Rattle.verdicts.specs.Verdicts.{verdicts}
use Rattle.verdicts.specs.Positions.{positions}

-- the specification's number of a refusal and its place; or the counts of rows and of good rows
pub data Imported : Type 0 where
  refused : (number place : ℕ) → Imported
  taken : (rows good : ℕ) → Imported

-- the first table, from 1, of which a test holds; 0 where it holds of none
unfoldable pub first_table : (List ℕ → Bool) → ℕ → List (List ℕ) → ℕ
first_table test k [] = 0
first_table test k (text ∷ texts) = cond (test text) k (first_table test (suc k) texts)

-- 01: "over 1,024 rows": a table that is taken has at most so many
abbrev pub most_rows : ℕ
most_rows = 1024

-- and an import writes at most so many cells, one for each row of all tables
abbrev pub most_cells : ℕ
most_cells = table_count * most_rows

-- 01: "a table over 65,536 bytes"; "over 1,024 rows"
unfoldable pub too_long : List (List ℕ) → ℕ
too_long texts = first_table (λ text. ltb 65536 (length text)) 1 texts

unfoldable pub too_many_rows : List (List ℕ) → ℕ
too_many_rows texts = first_table (λ text. ltb most_rows (length (lines_of text))) 1 texts

-- 01: "The count of good rows is the number of zeros among the cells written"
unfoldable pub zeros : List ℕ → ℕ
zeros cells = length (keep (λ cell. eqb cell 0) cells)

-- 01: "verdict buffer shorter than all rows"; 02, P2: "a second lent buffer with as many cells …; a short one is
-- refusal 3": there is room for as many rows as both have cells for
abbrev pub room_in : (lentCells lentPositions : List ℕ) → ℕ
room_in lentCells lentPositions = min (length lentCells) (length lentPositions)

-- 01: "The least number decides"; "for 1 and 2 the first such table, 1 to 10"; "else 0".
-- 02, P1: "cells and places count eleven tables"
unfoldable pub import_of : List (List ℕ) → (room : ℕ) → Imported
import_of texts room =
    cond (eqb (too_long texts) 0)
    (cond (eqb (too_many_rows texts) 0)
    (cond (ltb room (length (all_rows texts))) (refused 3 0) (taken (length (all_rows texts)) (zeros (verdicts texts))))
    (refused 2 (too_many_rows texts)))
    (refused 1 (too_long texts))

-- 01: "A refusal writes nothing"; "A finished import writes one cell per row, in table order, leaves further cells"
unfoldable pub cells_after : List (List ℕ) → List ℕ → Imported → List ℕ
cells_after texts cells (refused number place) = cells
cells_after texts cells (taken rows good) = verdicts texts ++ drop rows cells

-- and one position per row
unfoldable pub positions_after : List (List ℕ) → List ℕ → Imported → List ℕ
positions_after texts lent (refused number place) = lent
positions_after texts lent (taken rows good) = positions texts ++ drop rows lent
