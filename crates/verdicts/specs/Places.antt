-- Rows by the number of their table and their own, their places among the cells, and a line that is replaced.
use Rattle.std.specs.Prelude.{ℕ, zero, suc, ◌+◌, ◌-◌, ◌≤◌, ◌<◌, ◌≡◌, true, false, List, [], ◌∷◌, ◌++◌, length, get_or, set}
use Rattle.lines.specs.Lines.{Line, line_feed, lines_of, free, whole}
use Rattle.verdicts.specs.Entries.{Entry, table_count, carried_at, entry, all_rows}
use Rattle.verdicts.specs.Steps.{Reach}
use Rattle.verdicts.specs.Verdicts.{verdict}

-- the bytes of table u, from 0
abbrev pub text_at : List (List ℕ) → ℕ → List ℕ
text_at texts u = get_or texts u []

-- what reads past the last line
abbrev pub no_line : Line
no_line = record { bytes = []; ended = false }

-- u is one of the tables, and r the number of one of its rows, from 1
pub record IsRow (texts : List (List ℕ)) (u r : ℕ) : Type 0 where
  pub table : u < table_count
  pub above : 0 < r
  pub below : r ≤ length (lines_of (text_at texts u))

-- the line of row r of table u
abbrev pub line_at : List (List ℕ) → ℕ → ℕ → Line
line_at texts u r = get_or (lines_of (text_at texts u)) (r - 1) no_line

-- the row, as it stands among all rows. What it is where there is no such table or row says nothing
unfoldable pub entry_at : List (List ℕ) → ℕ → ℕ → Entry
entry_at texts u r = entry (carried_at u) u r (line_at texts u r)

-- and its verdict
unfoldable pub verdict_at : List (List ℕ) → ℕ → ℕ → ℕ
verdict_at texts u r = verdict (all_rows texts) (entry_at texts u r)

-- how many rows the first u tables have
unfoldable pub rows_before : List (List ℕ) → ℕ → ℕ
rows_before texts zero = 0
rows_before [] (suc u) = 0
rows_before (text ∷ texts) (suc u) = length (lines_of text) + rows_before texts u

-- 01: "one cell per row, in table order": which cell, from 0, is that of row r of table u
unfoldable pub place : List (List ℕ) → ℕ → ℕ → ℕ
place texts u r = rows_before texts u + (r - 1)

-- 01: "reached by one or more steps": from row r of table u to row x of table t
abbrev pub Reaches : List (List ℕ) → ℕ → ℕ → ℕ → ℕ → Type 0
Reaches texts u r t x = Reach (all_rows texts) (entry_at texts t x) (entry_at texts u r)

-- a line of a table, which a line feed ends, and the bytes that replace it
pub record Edit (texts : List (List ℕ)) : Type 0 where
  pub table : ℕ
  pub before : List ℕ
  pub old : List ℕ
  pub new : List ℕ
  pub after : List ℕ
  -- the table is what stands before the line, the line, and a line feed with what follows
  pub stood : text_at texts table ≡ before ++ (old ++ line_feed ∷ after)
  -- the line is one line: it starts the table or stands after a line feed, and no line feed is in it
  pub starts : whole before ≡ true
  pub one_line : free old ≡ true
  -- the new bytes are any without a line feed
  pub new_line : free new ≡ true

-- the number of the line, from 1
abbrev pub line_number : {texts : List (List ℕ)} → Edit texts → ℕ
line_number edit = suc (length (lines_of edit.before))

-- the tables with the line replaced
abbrev pub edited : (texts : List (List ℕ)) → Edit texts → List (List ℕ)
edited texts edit = set texts edit.table (edit.before ++ (edit.new ++ line_feed ∷ edit.after))

-- row r of table u isn't the line, and doesn't lean on it: it reaches the line neither in the old tables nor in the new
pub record Apart (texts : List (List ℕ)) (edit : Edit texts) (u r : ℕ) : Type 0 where
  pub other : u ≡ edit.table → r ≡ line_number edit → ⊥
  pub not_in_old : Reaches texts u r edit.table (line_number edit) → ⊥
  pub not_in_new : Reaches (edited texts edit) u r edit.table (line_number edit) → ⊥
