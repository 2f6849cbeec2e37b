-- The columns of the database, put over those of what is kept of the rows.
use Rattle.std.specs.Prelude.{ℕ, zero, suc, ◌≡◌, refl, cond, List, [], ◌∷◌, eqb, get_or}
use Rattle.std.proofs.lemmas.List.Edits.{sets}
use Rattle.laws.specs.Values.{tabulate}
use Rattle.symbols.specs.Arrays.{most_symbols}
use Rattle.database.specs.Arrays.{holder_column, first_column, next_column, number_column, table_column}

-- the number of the row after one, by the tables of both: rows are numbered from 1 in each table
unfoldable pub following : (number table next : ℕ) → ℕ
following number table next = cond (eqb table next) (suc number) 1

-- the number of row i, by the tables of the rows
unfoldable pub row_number_at : (tables : List ℕ) → ℕ → ℕ
row_number_at tables zero = 1
row_number_at tables (suc i) = following (row_number_at tables i) (get_or tables i 0) (get_or tables (suc i) 0)

-- the values of a function at the first n numbers, put to columns from a place on
abbrev pub put_from : List ℕ → (place : ℕ) → (ℕ → ℕ) → (n : ℕ) → List ℕ
put_from columns place f n = sets columns place (tabulate f 0 n)

-- the columns of the database, put over those of what is kept. Where lines start stays
unfoldable pub index_columns : (columns tables holders firsts nexts : List ℕ) → ℕ → List ℕ
index_columns columns tables holders firsts nexts n =
    let with_holders : List ℕ = put_from columns holder_column (λ id. get_or holders id 0) most_symbols in
    let with_firsts : List ℕ = put_from with_holders first_column (λ id. get_or firsts id 0) most_symbols in
    let with_nexts : List ℕ = put_from with_firsts next_column (λ i. get_or nexts i 0) n in
    let with_numbers : List ℕ = put_from with_nexts number_column (row_number_at tables) n in
    put_from with_numbers table_column (λ i. get_or tables i 0) n

pub record Examples : Type 0 where
  -- two rows of table 3, and one of table 5
  pub first : row_number_at (3 ∷ 3 ∷ 5 ∷ []) 0 ≡ 1
  pub second : row_number_at (3 ∷ 3 ∷ 5 ∷ []) 1 ≡ 2
  pub third : row_number_at (3 ∷ 3 ∷ 5 ∷ []) 2 ≡ 1
  pub put : put_from (7 ∷ 7 ∷ 7 ∷ 7 ∷ []) 1 (λ i. suc i) 2 ≡ 7 ∷ 1 ∷ 2 ∷ 7 ∷ []

pub examples : Examples
unfolding following row_number_at tabulate
examples = record { first = refl; second = refl; third = refl; put = refl }
