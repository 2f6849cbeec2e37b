-- Where the number of a row went wrong: the positions beside the verdicts.
use Rattle.std.specs.Prelude.{ℕ, ◌-◌, ◌/◌, ◌%◌, cond, List, map}
use Rattle.lines.specs.Lines.{Line}
use Rattle.schemas.specs.declared.Table.{Table}
use Rattle.schemas.specs.Positions.{position_in, tells_position, kind_of}
use Rattle.decoding.specs.Records.{column}
use Rattle.formed.specs.Formed.{formed}
use Rattle.verdicts.specs.Entries.{carried_at, all_rows}
use Rattle.verdicts.specs.Places.{line_at}

-- 02, P2: "Reasons 6 and 13 also write the position …, otherwise 0". In the column k, from 0, of which a verdict speaks
unfoldable pub position_by : Table → List ℕ → (verdict : ℕ) → ℕ
position_by table bytes verdict =
    let k : ℕ = verdict % 256 - 1 in
    cond (tells_position (verdict / 256)) (position_in (kind_of table k) (column bytes k)) 0

-- both are reasons of a row's own columns, so that other rows have no part in it
unfoldable pub row_position : Table → Line → ℕ
row_position table line = position_by table line.bytes (formed table line)

-- of row r of table u
unfoldable pub position_told : List (List ℕ) → ℕ → ℕ → ℕ
position_told texts u r = row_position (carried_at u) (line_at texts u r)

-- 02, P2: "in a second lent buffer with as many cells": one for each row, in table order
unfoldable pub positions : List (List ℕ) → List ℕ
positions texts = map (λ e. position_told texts e.table e.row) (all_rows texts)
