-- What the passes leave, for all later passes and questions.
use Rattle.std.specs.Prelude.{ℕ, ◌<◌, ◌≡◌, List, length, get_or}
use Rattle.laws.specs.Prefix.{flag}
use Rattle.symbols.specs.declared.Symbol.{Symbol}
use Rattle.verdicts.specs.Key.{Key}
use Rattle.verdicts.specs.Entries.{Entry}
use Rattle.verdicts.specs.Verdicts.{sound, tally}
use Rattle.meaning.specs.Kept.{Coding, key_id, Known, kept_entry}
use Rattle.meaning.specs.Found.{Finds}

-- by row whether it is sound; by id how many sound rows a group has, and the row that holds a key
pub record Judged (c : Coding) (symbols : List Symbol) (rows : List Entry) (sounds tallies holders : List ℕ) : Type 0 where
  pub sound_at : (i : ℕ) → i < length rows → get_or sounds i 0 ≡ flag (sound rows (kept_entry rows i))
  pub tally_at : (g : Key) → Known c symbols g → get_or tallies (key_id c symbols g) 0 ≡ tally rows g
  pub finds : (k : Key) → c.Fit k → Finds rows k (get_or holders (key_id c symbols k) 0)
