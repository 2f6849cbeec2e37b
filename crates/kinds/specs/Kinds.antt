-- The kinds that rows are of, as marks: the conditions that a row meets,
-- and whether it leads to a second row that others ask about.
use Rattle.std.specs.Prelude.{ℕ, ◌≡◌, refl, Bool, not, ◌&&◌, ◌||◌, List, [], ◌∷◌, eqb, get_or}
use Rattle.manners.specs.Manners.{manners, manner_at, weight, is_met_by, is_second, with_second}
use Rattle.chain_steps.specs.Chains.{no_row}

-- 01: "C needs CURTX in that pcf row": what a naming found is there, and is the second row that others ask about,
-- a curve through points
unfoldable pub second_at : (marks : List ℕ) → (code found : ℕ) → Bool
second_at marks code found = not (eqb found no_row) && is_second code (get_or marks found 0)

-- the kinds of a row with these marks, one of whose two namings may lead to a second row
unfoldable pub kinds_of : (marks : List ℕ) → (own code1 found1 code2 found2 : ℕ) → ℕ
kinds_of marks own code1 found1 code2 found2 = with_second own (second_at marks code1 found1 || second_at marks code2 found2)

-- the kinds of row i. codes and found: each row's two namings and the rows that they found; marks:
-- the conditions that each row meets
abbrev pub kinds_at : (marks codes1 found1 codes2 found2 : List ℕ) → ℕ → ℕ
kinds_at marks codes1 found1 codes2 found2 i =
    kinds_of marks (get_or marks i 0) (get_or codes1 i 0) (get_or found1 i no_row) (get_or codes2 i 0) (get_or found2 i no_row)

-- row 0 names row 1, a caf row, in its CURTX, and no row by its VALID; row 2 names in its CURTX what no row holds,
-- row 3 an mcf row
abbrev kind_of : ℕ → ℕ
kind_of =
    kinds_at (15 ∷ 17 ∷ 15 ∷ 15 ∷ 1 ∷ []) (3 ∷ 0 ∷ 0 ∷ 0 ∷ 0 ∷ []) (no_row ∷ no_row ∷ no_row ∷ no_row ∷ no_row ∷ []) (4 ∷ 0 ∷ 4 ∷ 4 ∷ 0 ∷ [])
    (1 ∷ no_row ∷ no_row ∷ 4 ∷ no_row ∷ [])

pub record Examples : Type 0 where
  pub second : kind_of 0 ≡ 47
  pub unnaming : kind_of 1 ≡ 17
  pub nowhere : kind_of 2 ≡ 15
  pub polynomial : kind_of 3 ≡ 15

pub examples : Examples
unfolding second_at kinds_of manners manner_at weight is_met_by is_second with_second
examples = record { second = refl; unnaming = refl; nowhere = refl; polynomial = refl }
