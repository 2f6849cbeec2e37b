-- What telling a row, and telling all rows of reason 11, leaves in the arrays: the order,
-- and marks of the rows that were told.
use Rattle.std.specs.Prelude.{ℕ, ◌+◌, ◌≤◌, ◌<◌, ◌≡◌, Bool, true, not, List, ◌++◌, eqb, length, get_or, Option}
use Rattle.std.proofs.lemmas.List.Edits.{sets}
use Rattle.row_order.specs.RowOrder.{is_in, way_to, told_before}

-- a row that names another is marked just where it was told
abbrev pub Marks : (naming : ℕ → Bool) → (n : ℕ) → (marks told : List ℕ) → Type 0
Marks naming n marks told = (i : ℕ) → i < n → naming i ≡ true → eqb (get_or marks i 0) 0 ≡ not (is_in i told)

module _ (first : ℕ → Option ℕ) (naming : ℕ → Bool) (n : ℕ) where
  -- these rows were told from a place on
  pub record Told (told way order : List ℕ) (at : ℕ) (marks' order' : List ℕ) (end' : ℕ) : Type 0 where
    pub ended : end' ≡ at + length way
    pub put : order' ≡ sets order at way
    pub marked : Marks naming n marks' (told ++ way)

  pub record Tells (steps i : ℕ) (marks order : List ℕ) (at : ℕ) (marks' order' : List ℕ) (end : ℕ) : Type 0 where
    pub most : end ≤ at + steps
    pub size : length marks' ≡ length marks
    pub long : length order' ≡ length order
    pub tells : (told : List ℕ) → Marks naming n marks told → Told told (way_to first naming steps told i) order at marks' order' end

  pub record TellsAll (order : List ℕ) (at : ℕ) (order' : List ℕ) (end : ℕ) : Type 0 where
    pub ends : end ≡ at + length (told_before first naming n n)
    pub ordered : order' ≡ sets order at (told_before first naming n n)
