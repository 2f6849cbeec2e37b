-- The list of row numbers that a question names.
use Rattle.std.specs.Prelude.{ℕ, ◌≡◌, refl, cond, List, [], ◌∷◌, eqb, ltb, length}
use Rattle.std.specs.Prelude as rust
use Rattle.std.proofs.Math.Option.{Option, some, none}
use Rattle.laws.specs.Text.{ascii}
use Rattle.numbers.specs.Number.{number_of, answer_of, meaning, spelt, after, digit_on, digit_of}
use Rattle.lines.specs.Columns.{columns_of, columns_from}
use Rattle.scripts.specs.Numerals.{natural_in, natural_of, at_most}
use Rattle.escapes.specs.Escapes.{before}

unfoldable pub before_number : rust.Option ℕ → Option (List ℕ) → Option (List ℕ)
before_number (rust.Some n) ns = before n ns
before_number rust.None ns = none

-- a number of 16 bits in each column
unfoldable pub row_numbers_in : List (List ℕ) → Option (List ℕ)
row_numbers_in [] = some []
row_numbers_in (column ∷ columns) = before_number (at_most 65535 (natural_in column)) (row_numbers_in columns)

-- more of them than there is room for can't be read
unfoldable pub where_entries : (room : ℕ) → List (List ℕ) → Option (List ℕ) → Option (List ℕ)
where_entries room columns numbers = cond (ltb room (length columns)) none numbers

-- ROW|ROW|…; no text is the empty list
unfoldable pub list_in : (room : ℕ) → (text : List ℕ) → Option (List ℕ)
list_in room text = cond (eqb (length text) 0) (some []) (where_entries room (columns_of text) (row_numbers_in (columns_of text)))

pub record Examples : Type 0 where
  pub three : list_in 5 (ascii "2\t4\t1") ≡ some (2 ∷ 4 ∷ 1 ∷ [])
  pub empty : list_in 5 [] ≡ some []
  pub too_many : list_in 2 (ascii "2\t4\t1") ≡ none
  pub too_large : list_in 5 (ascii "2\t65536") ≡ none
  pub one_left_out : list_in 5 (ascii "2\t\t1") ≡ none

pub examples : Examples
unfolding
    list_in where_entries row_numbers_in before_number before columns_of columns_from
    natural_in natural_of at_most number_of answer_of meaning spelt after digit_on digit_of
examples = record { three = refl; empty = refl; too_many = refl; too_large = refl; one_left_out = refl }
