-- Where the number of a column went wrong.
use Rattle.std.specs.Prelude.{ℕ, ◌≡◌, refl, List, Bool, true, false, ◌||◌, eqb, get_or}
use Rattle.laws.specs.Text.{ascii}
use Rattle.laws.specs.Walks.{lead_on, wrong_at}
use Rattle.numbers.specs.Number.{after, digit_on, digit_of}
use Rattle.number_positions.specs.Positions.{wrong_in_number}
use Rattle.number_positions.specs.Positions as number
use Rattle.notation.specs.Positions.{wrong_in_coefficient}
use Rattle.schemas.specs.declared.Table.{Table}
use Rattle.schemas.specs.declared.Table.TheVariants.{Cap}
use Rattle.column_checks.specs.Schema.{ColumnKind, any_text, a_number, a_letter, a_coefficient, text}
use Rattle.schemas.specs.Tables.{cap, schema}

-- 02, P2: "the position, from 1, of the first character at which no allowed number can go on, or one past the end"
unfoldable pub position_in : ColumnKind → List ℕ → ℕ
position_in any_text t = 0
position_in (a_number lowest highest) t = wrong_in_number t
position_in (a_letter letters) t = 0
position_in a_coefficient t = wrong_in_coefficient t

-- 02, P2: "Reasons 6 and 13 also write the position"
abbrev pub tells_position : (reason : ℕ) → Bool
tells_position reason = eqb reason 6 || eqb reason 13

-- the kind of column k of a table, from 0
abbrev pub kind_of : Table → ℕ → ColumnKind
kind_of table k = (get_or (schema table) k (text 0)).kind

pub record Examples : Type 0 where
  -- XVALS of cap is a number, and NUMBR is a name
  pub number : position_in (kind_of Cap 1) (ascii "08") ≡ 2
  pub name : position_in (kind_of Cap 0) (ascii "08") ≡ 0
  pub thirteen : tells_position 13 ≡ true
  pub seven : tells_position 7 ≡ false

pub examples : Examples
unfolding position_in schema cap wrong_at lead_on number.is_stuck after digit_on digit_of
examples = record { number = refl; name = refl; thirteen = refl; seven = refl }
