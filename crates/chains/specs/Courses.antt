-- What is remembered of chains, so that none is followed to its end for each of its rows. These are for the code:
-- no promise mentions them.
use Rattle.std.specs.Prelude.{ℕ, ◌≡◌, Bool, true, false, List, ltb, get_or}
use Rattle.chain_steps.specs.Chains.{no_row, row_after, comes_to, firm_from}
use Rattle.chains.specs.declared.ends.Course.{Course}
use Rattle.chains.specs.declared.ends.Course.TheVariants as course

-- the chain from row i comes to its end
pub data Ends (next : List ℕ) : ℕ → Type 0 where
  last : {i : ℕ} → row_after next i ≡ no_row → Ends next i
  on : {i : ℕ} → (row_after next i ≡ no_row → ⊥) → Ends next (row_after next i) → Ends next i

-- rows that are marked are such rows
pub record KnownEnds (next ended : List ℕ) : Type 0 where
  pub row : (j : ℕ) → get_or ended j 0 ≡ 1 → Ends next j

unfoldable pub is_return : Course → Bool
is_return course.Ends = false
is_return course.Returns = true
is_return course.Rounds = false

-- what a course of at most n steps from row i tells
pub record Followed (next : List ℕ) (n i : ℕ) (told : Course) : Type 0 where
  pub circle : is_return told ≡ comes_to next i n i
  pub ends : told ≡ course.Ends → Ends next i

-- a depth that isn't 0 is a number of rows within which the chain ends, all firm
pub record KnownDepths (next firm depths : List ℕ) : Type 0 where
  pub row : (j : ℕ) → (get_or depths j 0 ≡ 0 → ⊥) → firm_from next firm (get_or depths j 0) j ≡ true

-- a depth of the chain from row i, at most n; 0 where it isn't firm within n rows
pub record DepthIs (next firm : List ℕ) (n i depth : ℕ) : Type 0 where
  pub good : ltb 0 depth ≡ firm_from next firm n i
  pub deep : (depth ≡ 0 → ⊥) → firm_from next firm depth i ≡ true
