-- What the names of a row say, over arrays by row. 01: "11 a named row isn't there, good and of the kind asked,
-- lowest column"
use Rattle.std.specs.Prelude.{ℕ, ◌≡◌, refl, Bool, true, false, not, cond, ◌&&◌, ◌||◌, List, [], ◌∷◌, eqb, get_or}
use Rattle.laws.specs.Lists.{or_else}
use Rattle.laws.specs.Prefix.{flag}
use Rattle.schemas.specs.Reasons.{reason_at}
use Rattle.manners.specs.Manners.{manners, manner_at, weight, kind_weight, is_met_by}
use Rattle.chain_steps.specs.Chains.{no_row}

-- what a naming found is there, and of the kind asked
unfoldable pub asked_at : (kinds : List ℕ) → (code found : ℕ) → Bool
asked_at kinds code found = not (eqb found no_row) && is_met_by (get_or kinds found 0) (kind_weight (manner_at code).kind)

-- a naming is met: there is none, or what it found is of the kind asked and marked good
unfoldable pub met_at : (kinds good : List ℕ) → (code found : ℕ) → Bool
met_at kinds good code found = eqb code 0 || (asked_at kinds code found && eqb (get_or good found 0) 1)

-- 0, or reason 11 at its column
unfoldable pub name_at : (kinds good : List ℕ) → (code found : ℕ) → ℕ
name_at kinds good code found = cond (met_at kinds good code found) 0 (reason_at 11 (manner_at code).column)

-- the verdict of a row, by what stands before its names and by its two namings
unfoldable pub final_of : (kinds good : List ℕ) → (base code1 found1 code2 found2 : ℕ) → ℕ
final_of kinds good base code1 found1 code2 found2 =
    or_else base (or_else (name_at kinds good code1 found1) (name_at kinds good code2 found2))

-- a row of a chain is firm: it has no reason, the next row is of the kind asked,
-- and what it names beside is met by rows without reasons
unfoldable pub firm_of : (kinds clean : List ℕ) → (base code1 found1 next code2 found2 : ℕ) → Bool
firm_of kinds clean base code1 found1 next code2 found2 =
    eqb base 0
    && (cond (manner_at code1).chained (asked_at kinds code1 next) (met_at kinds clean code1 found1) && met_at kinds clean code2 found2)

module _ (kinds base codes1 found1 codes2 found2 : List ℕ) where
  -- the verdict of row i, where it is marked which rows are good
  abbrev pub final_at : (good : List ℕ) → ℕ → ℕ
  final_at good i = final_of kinds good (get_or base i 0) (get_or codes1 i 0) (get_or found1 i no_row) (get_or codes2 i 0) (get_or found2 i no_row)

  -- the mark of row i where it is firm; clean: the rows without reasons; next: the rows of the chains
  abbrev pub firm_at : (clean next : List ℕ) → ℕ → ℕ
  firm_at clean next i =
      flag
      (firm_of kinds clean (get_or base i 0) (get_or codes1 i 0) (get_or found1 i no_row) (get_or next i no_row) (get_or codes2 i 0) (get_or found2 i no_row))

-- row 0 names rows 1 and 2 by its VALID and its CURTX; the first of PTC 1–4, the second a curve
abbrev kind_list : List ℕ
kind_list = 15 ∷ 5 ∷ 1 ∷ []

pub record Examples : Type 0 where
  pub good : final_of kind_list (0 ∷ 1 ∷ 1 ∷ []) 0 3 1 4 2 ≡ 0
  pub other_kind : final_of kind_list (0 ∷ 1 ∷ 1 ∷ []) 0 3 2 4 2 ≡ 2824
  pub bad_row : final_of kind_list (0 ∷ 1 ∷ 0 ∷ []) 0 3 1 4 2 ≡ 2828
  pub nowhere : final_of kind_list (0 ∷ 1 ∷ 1 ∷ []) 0 3 1 4 no_row ≡ 2828
  pub before : final_of kind_list (0 ∷ 1 ∷ 1 ∷ []) 2304 3 no_row 4 2 ≡ 2304
  -- along a chain the next row needn't be good yet
  pub firm : firm_of kind_list (1 ∷ 0 ∷ 1 ∷ []) 0 3 1 1 4 2 ≡ true
  pub broken : firm_of kind_list (1 ∷ 1 ∷ 0 ∷ []) 0 3 1 1 4 2 ≡ false

pub examples : Examples
unfolding asked_at met_at name_at final_of firm_of manners manner_at weight is_met_by
examples = record { good = refl; other_kind = refl; bad_row = refl; nowhere = refl; before = refl; firm = refl; broken = refl }
