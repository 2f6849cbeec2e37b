-- Rows that hold a key which a row names, by the columns that are kept of the rows and the cells of their verdicts.
use Rattle.std.specs.Prelude.{ℕ, ◌≡◌, refl, Bool, false, ◌&&◌, ◌||◌, List, [], eqb}
use Rattle.manners.specs.Manners.{manner_at}
use Rattle.kept.specs.Stored.{name1_column, name2_column, code1_column, code2_column}
use Rattle.key_rows.specs.KeyRows.{in_column, has_key, sound_by}

-- row i names row j by its first naming, where that is asked about, or by its second
unfoldable pub named_by : (halves : List ℕ) → (i : ℕ) → (one two : Bool) → (j : ℕ) → Bool
named_by halves i one two j = (one && has_key halves (in_column halves name1_column i) j) || (two && has_key halves (in_column halves name2_column i) j)

-- a naming of row i stands at this column
abbrev pub stands_at : (bytes : List ℕ) → (codes column i : ℕ) → Bool
stands_at bytes codes column i = eqb (manner_at (in_column bytes codes i)).column column

-- and the VALID chain goes through it
abbrev pub is_chained : (bytes : List ℕ) → (codes i : ℕ) → Bool
is_chained bytes codes i = (manner_at (in_column bytes codes i)).chained

unfoldable pub named_at_by : (halves bytes : List ℕ) → (column i j : ℕ) → Bool
named_at_by halves bytes column i j = named_by halves i (stands_at bytes code1_column column i) (stands_at bytes code2_column column i) j

unfoldable pub follower_by : (halves bytes cells : List ℕ) → (i j : ℕ) → Bool
follower_by halves bytes cells i j = named_by halves i (is_chained bytes code1_column i) (is_chained bytes code2_column i) j && sound_by halves cells j

pub record Examples : Type 0 where
  -- a naming that isn't asked about names no row
  pub unasked : named_by [] 0 false false 1 ≡ false

pub examples : Examples
unfolding named_by
examples = record { unasked = refl }
