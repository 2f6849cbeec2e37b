-- Chains of rows: `next` has for each row the row after it, or no row.
use Rattle.std.specs.Prelude.{ℕ, zero, suc, ◌≡◌, refl, Bool, true, false, cond, ◌&&◌, List, [], ◌∷◌, eqb, get_or}

-- no row
abbrev pub no_row : ℕ
no_row = 65535

-- the row after row i
abbrev pub row_after : List ℕ → ℕ → ℕ
row_after next i = get_or next i no_row

-- within n steps the chain from row i comes to row z
unfoldable pub comes_to : List ℕ → (z n i : ℕ) → Bool
comes_to next z zero i = false
comes_to next z (suc n) i =
    cond (eqb (row_after next i) no_row) false (cond (eqb (row_after next i) z) true (comes_to next z n (row_after next i)))

-- within n rows the chain from row i ends, and each row of it is marked firm
unfoldable pub firm_from : (next firm : List ℕ) → (n i : ℕ) → Bool
firm_from next firm zero i = false
firm_from next firm (suc n) i =
    eqb (get_or firm i 0) 1 && cond (eqb (row_after next i) no_row) true (firm_from next firm n (row_after next i))

-- rows 0 and 1 go round, 2 leads into them, 3 leads to 4
abbrev rows : List ℕ
rows = 1 ∷ 0 ∷ 1 ∷ 4 ∷ no_row ∷ []

pub record Examples : Type 0 where
  pub returns : comes_to rows 0 5 0 ≡ true
  pub leads_into : comes_to rows 2 5 2 ≡ false
  pub ends : comes_to rows 3 5 3 ≡ false
  pub firm : firm_from rows (0 ∷ 0 ∷ 0 ∷ 1 ∷ 1 ∷ []) 5 3 ≡ true
  pub broken : firm_from rows (0 ∷ 0 ∷ 0 ∷ 1 ∷ 0 ∷ []) 5 3 ≡ false
  pub round : firm_from rows (1 ∷ 1 ∷ 1 ∷ 1 ∷ 1 ∷ []) 5 2 ≡ false

pub examples : Examples
unfolding comes_to firm_from
examples = record { returns = refl; leads_into = refl; ends = refl; firm = refl; broken = refl; round = refl }
