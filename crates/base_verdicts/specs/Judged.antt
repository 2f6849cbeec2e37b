-- The verdicts of rows from what their namings found, over arrays by row. These definitions are for the code: what they
-- mean for the tables is `judged_are`.
use Rattle.std.specs.Prelude.{ℕ, suc, ◌≡◌, refl, cond, ◌&&◌, List, [], ◌∷◌, eqb, get_or, replicate}
use Rattle.std.proofs.lemmas.List.Edits.{sets}
use Rattle.laws.specs.Lists.{or_else}
use Rattle.laws.specs.Prefix.{flag}
use Rattle.laws.specs.Values.{tabulate}
use Rattle.arrays.specs.Room.{most_places}
use Rattle.schemas.specs.Reasons.{reason_at}
use Rattle.manners.specs.Manners.{manners, manner_at}
use Rattle.chain_steps.specs.Chains.{no_row, comes_to, firm_from}
use Rattle.kinds.specs.Kinds.{kinds_at}
use Rattle.met_names.specs.Names.{final_at, firm_at}

-- ---- reasons 1 to 10 and 12

-- 01: "Only rows without reasons 1–9 hold keys for counting and chains": the row that a chained naming found,
-- where it is sound
unfoldable pub next_of : (sound : List ℕ) → (code found : ℕ) → ℕ
next_of sound code found = cond ((manner_at code).chained && eqb (get_or sound found 0) 1) found no_row

-- the verdict of reasons 1 to 8, 9 where the row isn't sound, 10 as counted, 12 where it is on a circle
unfoldable pub base_of : (own sound count circle : ℕ) → ℕ
base_of own sound count circle =
    or_else own (or_else (cond (eqb sound 1) 0 (reason_at 9 0)) (or_else count (cond (eqb circle 1) (reason_at 12 8) 0)))

-- ---- the arrays that the passes fill, from the front

abbrev pub filled : (fill : ℕ) → (ℕ → ℕ) → (n : ℕ) → List ℕ
filled fill f n = sets (replicate most_places fill) 0 (tabulate f 0 n)

-- a chain that ends has fewer rows than this
abbrev pub longest : ℕ
longest = suc most_places

-- rows with a verdict of 0
abbrev pub zero_at : List ℕ → ℕ → ℕ
zero_at cells i = flag (eqb (get_or cells i 0) 0)

-- the rows whose chain comes back to them
abbrev pub circles_of : (next : List ℕ) → (n : ℕ) → List ℕ
circles_of next n = filled 0 (λ i. flag (comes_to next i n i)) n

-- ---- the layers, by the kinds of rows, the reasons before the names, and the rows of chains

module _ (kinds base codes1 found1 codes2 found2 next : List ℕ) (n : ℕ) where
  -- rows without reasons 1 to 10 and 12: good where they name nothing
  abbrev pub clean_rows : List ℕ
  clean_rows = filled 0 (zero_at base) n

  abbrev pub firm_rows : List ℕ
  firm_rows = filled 0 (firm_at kinds base codes1 found1 codes2 found2 clean_rows next) n

  -- good along VALID chains
  abbrev pub chained_at : ℕ → ℕ
  chained_at i = flag (firm_from next firm_rows longest i)

  -- good by rows that are good along chains
  abbrev pub good_at : ℕ → ℕ
  good_at = zero_at (filled 0 (final_at kinds base codes1 found1 codes2 found2 (filled 0 chained_at n)) n)

  -- the verdict by rows that are good by these
  abbrev pub cell_at : ℕ → ℕ
  cell_at = final_at kinds base codes1 found1 codes2 found2 (filled 0 good_at n)

-- ---- the cells

-- own: reasons 1 to 8; sound: 1 without reasons 1 to 9; counts: 0 or reason 10
module _ (own sound counts codes1 found1 codes2 found2 : List ℕ) (n : ℕ) where
  abbrev pub next_rows : List ℕ
  next_rows = filled no_row (λ i. next_of sound (get_or codes1 i 0) (get_or found1 i no_row)) n

  abbrev pub base_rows : List ℕ
  base_rows =
      filled 0 (λ i. base_of (get_or own i 0) (get_or sound i 0) (get_or counts i 0) (get_or (circles_of next_rows n) i 0)) n

  unfoldable pub cells_by : (kinds : List ℕ) → List ℕ
  cells_by kinds = tabulate (cell_at kinds base_rows codes1 found1 codes2 found2 next_rows n) 0 n

-- the kinds of rows by the conditions that they meet
abbrev pub kind_rows : (marks codes1 found1 codes2 found2 : List ℕ) → (n : ℕ) → List ℕ
kind_rows marks codes1 found1 codes2 found2 n = filled 0 (kinds_at marks codes1 found1 codes2 found2) n

-- the cells of n rows, by what the arrays say of them
unfoldable pub cell_rows : (own sound counts codes1 found1 codes2 found2 marks : List ℕ) → (n : ℕ) → List ℕ
cell_rows own sound counts codes1 found1 codes2 found2 marks n =
    cells_by own sound counts codes1 found1 codes2 found2 n (kind_rows marks codes1 found1 codes2 found2 n)

pub record Examples : Type 0 where
  pub next : next_of (0 ∷ 1 ∷ []) 3 1 ≡ 1
  pub unsound : next_of (0 ∷ 1 ∷ []) 3 0 ≡ no_row
  pub unchained : next_of (0 ∷ 1 ∷ []) 4 1 ≡ no_row
  pub shared : base_of 0 0 2567 1 ≡ 2304
  pub counted : base_of 0 1 2567 1 ≡ 2567
  pub round : base_of 0 1 0 1 ≡ 3080
  pub free : base_of 0 1 0 0 ≡ 0

pub examples : Examples
unfolding next_of base_of manners manner_at
examples =
    record { next = refl; unsound = refl; unchained = refl; shared = refl; counted = refl; round = refl; free = refl }
