-- What it means to be on a circle, and to be good: `circle_law` and `good_law` say that the verdicts mean this.
use Rattle.std.specs.Prelude.{◌≡◌, true, false}
use mathlib.Core.List.{List, Memᴰ}
use Rattle.verdicts.specs.Facts.{Naming, Count}
use Rattle.verdicts.specs.Entries.{Entry, facts}
use Rattle.verdicts.specs.Steps.{twin, holds}
use Rattle.verdicts.specs.Verdicts.{sound, tally, next, circle, of_kind, verdict}

-- one or more steps of a VALID chain from e to the row z, each to a row without reasons 1 to 9
pub data Chain (rows : List Entry) (z : Entry) : Entry → Type 0 where
  last : {e o : Entry} → Memᴰ o (next rows e) → twin o z ≡ true → Chain rows z e
  then : {e o : Entry} → Memᴰ o (next rows e) → Chain rows z o → Chain rows z e

-- o is what a column that names a row asks for. 01: "a named row isn't there, good and of the kind asked"
pub record Meets (rows : List Entry) (n : Naming) (o : Entry) : Type 0 where
  pub there : Memᴰ o rows
  pub held : holds o n.key ≡ true
  pub kind : of_kind rows n.kind o ≡ true
  pub good : verdict rows o ≡ 0

pub record Good (rows : List Entry) (e : Entry) : Type 0 where
  -- without reasons 1 to 9
  pub is_sound : sound rows e ≡ true
  -- every count is the number of sound rows of its group
  pub counted : (c : Count) → Memᴰ c (facts e).counts → tally rows c.group ≡ c.number
  -- its VALID chain doesn't return to it: see `circle_law`
  pub on_no_circle : circle rows e ≡ false
  -- every name is met by a good row
  pub named : (n : Naming) → Memᴰ n (facts e).names → (o : Entry) × Meets rows n o
