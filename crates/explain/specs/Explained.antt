-- Columns and cells that explain the verdicts of tables.
use Rattle.std.specs.Prelude.{ℕ, ◌<◌, ◌≡◌, List, map, length, get_or}
use Rattle.laws.specs.Prefix.{all_from}
use Rattle.verdicts.specs.Entries.{all_rows}
use Rattle.verdicts.specs.Verdicts.{verdict}
use Rattle.causes.specs.Causes.{speaks_of, causes}
use Rattle.meaning.specs.Kept.{kept_entry}
use Rattle.pointing.specs.Pointing.{points_to}

-- the cells hold the verdicts, and row i points to row j just where its verdict speaks of it:
-- one after the other they are the causes
pub record Explains (texts : List (List ℕ)) (halves bytes cells : List ℕ) (rows : ℕ) : Type 0 where
  pub count : rows ≡ length (all_rows texts)
  pub judged : (i : ℕ) → i < rows → get_or cells i 0 ≡ verdict (all_rows texts) (kept_entry (all_rows texts) i)
  pub points : (i j : ℕ) → i < rows → j < rows
      → points_to halves bytes cells i j
      ≡ speaks_of (all_rows texts) (verdict (all_rows texts) (kept_entry (all_rows texts) i)) (kept_entry (all_rows texts) i) (kept_entry (all_rows texts) j)
  pub told : (i : ℕ) → i < rows
      → map (kept_entry (all_rows texts)) (all_from (points_to halves bytes cells i) 0 rows) ≡ causes (all_rows texts) (kept_entry (all_rows texts) i)
