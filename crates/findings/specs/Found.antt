-- What the passes make of what they find: a row instead of one more than it, and reason 10.
use Rattle.std.specs.Prelude.{ℕ, zero, suc, ◌≡◌, refl, cond, ◌||◌, eqb}
use Rattle.schemas.specs.Reasons.{reason_at}
use Rattle.chain_steps.specs.Chains.{no_row}

-- 0 is no row
unfoldable pub row_linked : ℕ → ℕ
row_linked zero = no_row
row_linked (suc j) = j

-- 01: "10 count differs (count column)": the column that counts, 0 where none does, its number, and how many there are
unfoldable pub count_finding : (column number tally : ℕ) → ℕ
count_finding column number tally = cond (eqb column 0 || eqb tally number) 0 (reason_at 10 column)

pub record Examples : Type 0 where
  pub none : row_linked 0 ≡ 65535
  pub first : row_linked 1 ≡ 0
  pub differs : count_finding 7 3 2 ≡ 2567
  pub same : count_finding 7 3 3 ≡ 0
  pub uncounted : count_finding 0 3 2 ≡ 0

pub examples : Examples
unfolding row_linked count_finding
examples = record { none = refl; first = refl; differs = refl; same = refl; uncounted = refl }
