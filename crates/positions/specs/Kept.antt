-- The position of each row, by what is kept of where the row stands and of its own columns' verdict.
use Rattle.std.specs.Prelude.{ℕ, min, ◌≡◌, List}
use Rattle.std.proofs.lemmas.List.Edits.{sets}
use Rattle.laws.specs.Values.{tabulate}
use Rattle.lines.specs.Lines.{line_from}
use Rattle.verdicts.specs.Entries.{carried_at}
use Rattle.verdicts.specs.Places.{text_at}
use Rattle.verdicts.specs.Positions.{position_by}
use Rattle.kept.specs.Stored.{own_column, kept_start_column, kept_table_column}
use Rattle.key_rows.specs.KeyRows.{in_column}

-- of row i, from 0, by its table, the place at which its line starts, and that verdict. A place holds at most 65,535,
-- which no position of a row that is kept is above
unfoldable pub position_kept : List (List ℕ) → (halves bytes : List ℕ) → ℕ → ℕ
position_kept texts halves bytes i =
    let t : ℕ = in_column bytes kept_table_column i in
    min (position_by (carried_at t) (line_from (text_at texts t) (in_column halves kept_start_column i)).bytes (in_column halves own_column i)) 65535

-- the first n places hold those of the first n rows
abbrev pub PositionsBy : List (List ℕ) → (halves bytes before after : List ℕ) → ℕ → Type 0
PositionsBy texts halves bytes before after n = after ≡ sets before 0 (tabulate (position_kept texts halves bytes) 0 n)
