-- Which rows a row's verdict points to, by the columns that are kept of the rows and the cells of their verdicts.
use Rattle.std.specs.Prelude.{ℕ, ◌/◌, ◌%◌, ◌≡◌, refl, Bool, false, cond, List, [], ◌∷◌, eqb, get_or, Option, Some, None}
use Rattle.key_rows.specs.KeyRows.{shares_by, counted_by}
use Rattle.named_rows.specs.NamedRows.{named_at_by, follower_by}

-- by the reason of the verdict in its cell row i points to row j
unfoldable pub points_to : (halves bytes cells : List ℕ) → (i j : ℕ) → Bool
points_to halves bytes cells i j =
    cond (eqb (get_or cells i 0 / 256) 9) (shares_by halves i j)
    (cond (eqb (get_or cells i 0 / 256) 10) (counted_by halves bytes cells i j)
    (cond (eqb (get_or cells i 0 / 256) 11) (named_at_by halves bytes (get_or cells i 0 % 256) i j)
    (cond (eqb (get_or cells i 0 / 256) 12) (follower_by halves bytes cells i j)
    false)))

-- the first of some rows
unfoldable pub first_of : List ℕ → Option ℕ
first_of [] = None
first_of (j ∷ js) = Some j

pub record Examples : Type 0 where
  pub some : first_of (3 ∷ 5 ∷ []) ≡ Some 3
  pub none : first_of [] ≡ None

pub examples : Examples
unfolding first_of
examples = record { some = refl; none = refl }
