-- Steps between rows, and reaching.
use Rattle.std.specs.Prelude.{ℕ, ◌≡◌, Bool, true, not, ◌&&◌, ◌||◌, eqb}
use mathlib.Core.List.{List, Memᴰ}
use Rattle.laws.specs.Lists.{any}
use Rattle.verdicts.specs.Key.{Key, same_key}
use Rattle.verdicts.specs.Entries.{Entry, facts}

-- the same row
unfoldable pub twin : Entry → Entry → Bool
twin e o = eqb e.table o.table && eqb e.row o.row

unfoldable pub holds : Entry → Key → Bool
holds o k = any (same_key k) (facts o).keys

unfoldable pub belongs : Entry → Key → Bool
belongs o group = any (same_key group) (facts o).groups

-- 01: "from a row to every other row that holds one of its keys"
unfoldable pub rivals : Entry → Entry → Bool
rivals e o = not (twin e o) && any (holds o) (facts e).keys

-- 01: "to every row holding a key it names, met conditions or not"
unfoldable pub names : Entry → Entry → Bool
names e o = any (λ n. holds o n.key) (facts e).names

-- the same by one of its columns
unfoldable pub names_at : ℕ → Entry → Entry → Bool
names_at column e o = any (λ n. eqb n.column column && holds o n.key) (facts e).names

-- 01: "and from caf, txf and ocf to every row of their name in cap, txp and ocp"
unfoldable pub counts : Entry → Entry → Bool
counts e o = any (λ c. belongs o c.group) (facts e).counts

-- 01: "Steps for demand 3 are between rows without reasons 1–8, whatever their later reasons"; others have no facts
unfoldable pub step : Entry → Entry → Bool
step e o = rivals e o || names e o || counts e o

-- 01: "A line is reached by one or more steps": from e to x, each step to a row of the tables
pub data Reach (rows : List Entry) (x : Entry) : Entry → Type 0 where
  one : {e : Entry} → Memᴰ x rows → step e x ≡ true → Reach rows x e
  more : {e o : Entry} → Memᴰ o rows → step e o ≡ true → Reach rows x o → Reach rows x e
