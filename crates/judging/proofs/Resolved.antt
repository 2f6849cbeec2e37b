-- What the arrays say of the rows: which are sound, whether their counts differ, and the rows that their namings found.
use mathlib.Core.Path.{◌≡◌, refl, sym}
use mathlib.Core.Bool.{Bool, true, false}
use mathlib.Core.List.{List, [], ◌∷◌, ◌++◌, map}
use Prim.Native.Nat.{ℕ, ◌≤◌, ◌<◌}
use lib.Dec.{eqb}
use lib.ListN.{length, get_or}
use borrow.Author.Tests.{eq-eqb, eqb-true}
use Rattle.laws.specs.Lists.{first}
use Rattle.laws.specs.Prefix.{flag}
use Rattle.laws.proofs.Lists.{at_mem}
use Rattle.arrays.specs.Room.{most_places}
use Rattle.verdicts.specs.Facts.{Condition, Naming}
use Rattle.verdicts.specs.Entries.{Entry, bad, own, facts}
use Rattle.verdicts.specs.Steps.{twin, holds}
use Rattle.verdicts.specs.Verdicts.{sound, count_cell, verdict}
use Rattle.verdicts.proofs.SoundLaws.{alone}
use Rattle.verdicts.proofs.GoodLaw.{good_law}
use Rattle.manners.specs.Manners.{manner_at, weight, is_met_by}
use Rattle.chain_steps.specs.Chains.{no_row}

abbrev pub no_entry : Entry
no_entry = record { table = 0; row = 0; reading = bad 1 }

-- row i of a list of rows
abbrev pub row_at : List Entry → ℕ → Entry
row_at rows i = get_or rows i no_entry

module _ (rows : List Entry) where
  -- a naming is kept by its code, and by the row that it found
  pub record Answers (n : Naming) (code found : ℕ) : Type 0 where
    pub column : n.column ≡ (manner_at code).column
    pub kind : n.kind ≡ (manner_at code).kind
    pub chained : n.chained ≡ (manner_at code).chained
    -- what is found holds the key, and where some row holds it, one is found
    pub there : (found ≡ no_row → ⊥) → (found < length rows) × (holds (row_at rows found) n.key ≡ true)
    pub finds : (j : ℕ) → j < length rows → holds (row_at rows j) n.key ≡ true → found ≡ no_row → ⊥

  -- what a row names in one of its two places, if anything
  pub data Named (code found : ℕ) : Type 0 where
    absent : code ≡ 0 → Named code found
    present : (n : Naming) → (code ≡ 0 → ⊥) → Answers n code found → Named code found

abbrev pub names_in : {rows : List Entry} {code found : ℕ} → Named rows code found → List Naming
names_in (absent e) = []
names_in (present n e r) = n ∷ []

-- the namings of a row in both places; only the first is of a chain
pub record Names (rows : List Entry) (code1 found1 code2 found2 : ℕ) (ns : List Naming) : Type 0 where
  pub one : Named rows code1 found1
  pub two : Named rows code2 found2
  pub are : ns ≡ names_in one ++ names_in two
  pub unchained : (manner_at code2).chained ≡ false

-- the arrays of the rows
pub record Arrays : Type 0 where
  pub own : List ℕ
  pub sound : List ℕ
  pub counts : List ℕ
  pub codes1 : List ℕ
  pub found1 : List ℕ
  pub codes2 : List ℕ
  pub found2 : List ℕ
  pub marks : List ℕ

abbrev pub code1 : Arrays → ℕ → ℕ
code1 w i = get_or w.codes1 i 0

abbrev pub code2 : Arrays → ℕ → ℕ
code2 w i = get_or w.codes2 i 0

abbrev pub row1 : Arrays → ℕ → ℕ
row1 w i = get_or w.found1 i no_row

abbrev pub row2 : Arrays → ℕ → ℕ
row2 w i = get_or w.found2 i no_row

-- rows stand in layers, so that what a row names lies in a lower one, except along chains
pub record Layers (w : Arrays) (n : ℕ) (layer : ℕ → ℕ) : Type 0 where
  pub most : (i : ℕ) → i < n → layer i ≤ 3
  pub quiet : (i : ℕ) → i < n → layer i ≡ 0 → (code1 w i ≡ 0) × (code2 w i ≡ 0)
  pub along : (i : ℕ) → i < n → (manner_at (code1 w i)).chained ≡ true → (layer i ≡ 1) × ((row1 w i ≡ no_row → ⊥) → layer (row1 w i) ≡ 1)
  pub below1 : (i : ℕ) → i < n → (manner_at (code1 w i)).chained ≡ false → (code1 w i ≡ 0 → ⊥) → (row1 w i ≡ no_row → ⊥) → layer (row1 w i) < layer i
  pub below2 : (i : ℕ) → i < n → (code2 w i ≡ 0 → ⊥) → (row2 w i ≡ no_row → ⊥) → layer (row2 w i) < layer i

pub record Resolved (rows : List Entry) (w : Arrays) (layer : ℕ → ℕ) : Type 0 where
  pub few : length rows ≤ most_places
  pub twins : (i j : ℕ) → i < length rows → j < length rows → twin (row_at rows i) (row_at rows j) ≡ true → i ≡ j
  pub owns : (i : ℕ) → i < length rows → get_or w.own i 0 ≡ own (row_at rows i).reading
  pub sounds : (i : ℕ) → i < length rows → get_or w.sound i 0 ≡ flag (sound rows (row_at rows i))
  pub short : length w.sound ≤ most_places
  pub counted : (i : ℕ) → i < length rows → own (row_at rows i).reading ≡ 0
      → get_or w.counts i 0 ≡ first (map (count_cell rows) (facts (row_at rows i)).counts)
  pub named : (i : ℕ) → i < length rows → own (row_at rows i).reading ≡ 0
      → Names rows (code1 w i) (row1 w i) (code2 w i) (row2 w i) (facts (row_at rows i)).names
  -- what is marked of a row is the conditions that it meets
  pub marked : (i : ℕ) → i < length rows → (c : Condition) → (facts (row_at rows i)).meets c ≡ is_met_by (get_or w.marks i 0) (weight c)
  pub layers : Layers w (length rows) layer

-- good is a verdict of 0
abbrev pub is_good : List Entry → Entry → Bool
is_good rows o = eqb (verdict rows o) 0

pub good_sound : (rows : List Entry) (o : Entry) → is_good rows o ≡ true → sound rows o ≡ true
good_sound rows o t = ((good_law rows o).0 (eqb-true _ _ t)).is_sound

-- a row is itself
pub twin_self : (e : Entry) → twin e e ≡ true
unfolding twin
twin_self e = rw (eq-eqb e.table e.table refl, eq-eqb e.row e.row refl)

module _ (rows : List Entry) (w : Arrays) (layer : ℕ → ℕ) (v : Resolved rows w layer) (n : Naming) (code found : ℕ) (r : Answers rows n code found) where
  -- a sound row that holds the key is what is found
  pub sole : (j : ℕ) → j < length rows → sound rows (row_at rows j) ≡ true → holds (row_at rows j) n.key ≡ true → found ≡ j
  sole j q s h =
      let g = r.there (r.finds j q h) in
      sym (v.twins j found q g.0 (alone rows (row_at rows j) (row_at rows found) n.key (at_mem rows found no_entry g.0) s h g.1))
