-- Rows by the reason of their verdict.
use Rattle.std.specs.Prelude.{ℕ, ◌/◌, ◌≡◌, refl, Bool, true, List, [], ◌∷◌, eqb, get_or}

-- the cell of row i has this reason
unfoldable pub has_reason : List ℕ → (reason i : ℕ) → Bool
has_reason cells reason i = eqb (get_or cells i 0 / 256) reason

pub record Examples : Type 0 where
  pub shared : has_reason (0 ∷ 2304 ∷ []) 9 1 ≡ true

pub examples : Examples
unfolding has_reason
examples = record { shared = refl }
