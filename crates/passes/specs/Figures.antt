-- Examples that are computed: four rows, the second not marked, with the ids 5, 5, 5 and none.
use Rattle.std.specs.Prelude.{ℕ, ◌≡◌, refl, List, [], ◌∷◌}
use Rattle.laws.specs.Prefix.{count_with, last_with, first_from, all_from}
use Rattle.passes.specs.Marked.{has_id, put_marked}
use Rattle.passes.specs.Sound.{sound_of, sound_at}
use Rattle.passes.specs.Groups.{first_row, chain}

abbrev marks : List ℕ
marks = 1 ∷ 0 ∷ 1 ∷ 1 ∷ []

abbrev ids : List ℕ
ids = 5 ∷ 5 ∷ 5 ∷ 65535 ∷ []

-- how many rows hold each of seven ids
abbrev holders : List ℕ
holders = 0 ∷ 0 ∷ 0 ∷ 0 ∷ 0 ∷ 2 ∷ 1 ∷ []

pub record Examples : Type 0 where
  pub counted : count_with (has_id marks ids 5) 4 ≡ 2
  pub noted : last_with (has_id marks ids 5) 4 ≡ 3
  pub not_marked : put_marked 0 1 9 (4 ∷ 4 ∷ []) ≡ 4 ∷ 4 ∷ []
  pub marked : put_marked 1 1 9 (4 ∷ 4 ∷ []) ≡ 4 ∷ 9 ∷ []
  -- past the end
  pub nowhere : put_marked 1 2 9 (4 ∷ 4 ∷ []) ≡ 4 ∷ 4 ∷ []
  -- a row that shares its key, one that holds two alone, one without a key
  pub shares : sound_at marks ids ids holders 0 ≡ 0
  pub alone : sound_at (1 ∷ []) (6 ∷ []) (65535 ∷ []) holders 0 ≡ 1
  pub keyless : sound_at marks ids ids holders 3 ≡ 1
  pub first : first_row marks ids (0 ∷ 0 ∷ 0 ∷ 0 ∷ 0 ∷ 0 ∷ []) 5 1 4 ≡ 3
  -- the links of id 5 meet rows 0 and 2
  pub followed : chain (3 ∷ 3 ∷ 0 ∷ 0 ∷ []) 4 1 ≡ 0 ∷ 2 ∷ []
  pub all : all_from (has_id marks ids 5) 0 4 ≡ 0 ∷ 2 ∷ []

pub examples : Examples
unfolding count_with last_with first_from all_from has_id put_marked sound_of sound_at first_row chain
examples =
    record {
      counted = refl;
      noted = refl;
      not_marked = refl;
      marked = refl;
      nowhere = refl;
      shares = refl;
      alone = refl;
      keyless = refl;
      first = refl;
      followed = refl;
      all = refl;
    }
