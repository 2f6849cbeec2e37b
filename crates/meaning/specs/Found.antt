-- The row that a key finds.
use Rattle.std.specs.Prelude.{ℕ, ◌+◌, ◌<◌, ◌≡◌, true, false, List, length}
use Rattle.verdicts.specs.Key.{Key}
use Rattle.verdicts.specs.Entries.{Entry}
use Rattle.verdicts.specs.Steps.{holds}
use Rattle.verdicts.specs.Verdicts.{shared}
use Rattle.meaning.specs.Kept.{kept_entry}

-- `found` is 0 where no row holds the key, and else one more than a row that does: the only one,
-- where one that holds it shares no key
pub record Finds (rows : List Entry) (k : Key) (found : ℕ) : Type 0 where
  pub none : found ≡ 0 → (j : ℕ) → j < length rows → holds (kept_entry rows j) k ≡ false
  pub some : (j : ℕ) → found ≡ j + 1 → (j < length rows) × (holds (kept_entry rows j) k ≡ true)
  pub only : (j : ℕ) → j < length rows → holds (kept_entry rows j) k ≡ true → shared rows (kept_entry rows j) ≡ false → found ≡ j + 1
