-- Rows that hold a key, and sound rows of a group,
-- by the columns that are kept of the rows and the cells of their verdicts.
use Rattle.std.specs.Prelude.{ℕ, ◌≡◌, refl, Bool, true, false, not, ◌&&◌, ◌||◌, List, [], ◌∷◌, eqb, get_or}
use Rattle.symbols.specs.Symbols.{no_id}
use Rattle.kept.specs.Stored.{own_column, key1_column, key2_column, group_column, count_column}
use Rattle.judged.specs.Passes.{column_of}

-- what column c has of row i
abbrev pub in_column : List ℕ → (c i : ℕ) → ℕ
in_column columns c i = get_or (column_of columns c) i 0

-- row j holds the key with this id; no_id is no key's
unfoldable pub has_key : (halves : List ℕ) → (id j : ℕ) → Bool
has_key halves id j = not (eqb id no_id) && (eqb (in_column halves key1_column j) id || eqb (in_column halves key2_column j) id)

-- another row than i, which holds one of its keys
unfoldable pub shares_by : (halves : List ℕ) → (i j : ℕ) → Bool
shares_by halves i j = not (eqb i j) && (has_key halves (in_column halves key1_column i) j || has_key halves (in_column halves key2_column i) j)

-- without reasons 1 to 9: its own columns give no verdict, and its cell isn't that of reason 9
unfoldable pub sound_by : (halves cells : List ℕ) → (j : ℕ) → Bool
sound_by halves cells j = eqb (in_column halves own_column j) 0 && not (eqb (get_or cells j 0) 2304)

-- row i counts rows, and j is a sound one of the group, which goes by the first key of i
unfoldable pub counted_by : (halves bytes cells : List ℕ) → (i j : ℕ) → Bool
counted_by halves bytes cells i j =
    not (eqb (in_column bytes count_column i) 0)
    && (eqb (in_column halves group_column j) (in_column halves key1_column i) && sound_by halves cells j)

pub record Examples : Type 0 where
  -- the cells 0 and 2304 of two rows whose own columns give no verdict
  pub sound : sound_by (0 ∷ 0 ∷ []) (0 ∷ 2304 ∷ []) 0 ≡ true
  pub shared : sound_by (0 ∷ 0 ∷ []) (0 ∷ 2304 ∷ []) 1 ≡ false

pub examples : Examples
unfolding sound_by
examples = record { sound = refl; shared = refl }
