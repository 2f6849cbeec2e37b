-- What stands in the columns of the index.
use mathlib.Core.Path.{◌≡◌, ◌∙◌}
use mathlib.Core.List.{List}
use Prim.Native.Nat.{ℕ, ◌+◌, ◌≤◌, ◌<◌}
use native.Mathlib.Omega.{arith}
use lib.ListN.{length, get_or}
use Rattle.arrays.specs.Room.{most_places}
use Rattle.symbols.specs.Arrays.{most_symbols}
use Rattle.database.specs.Arrays.{holder_column, first_column, next_column, number_column, table_column, start_column, all_columns}
use Rattle.index_columns.specs.Columns.{row_number_at, put_from, index_columns}
use Rattle.index_columns.proofs.PutLaws.{put_size, put_at, put_before, put_after}

-- the columns are put one after the other
pub all_put : (columns tables holders firsts nexts : List ℕ) (n : ℕ) (a b c d e : List ℕ)
    → a ≡ put_from columns holder_column (λ id. get_or holders id 0) most_symbols
    → b ≡ put_from a first_column (λ id. get_or firsts id 0) most_symbols
    → c ≡ put_from b next_column (λ i. get_or nexts i 0) n
    → d ≡ put_from c number_column (row_number_at tables) n
    → e ≡ put_from d table_column (λ i. get_or tables i 0) n
    → e ≡ index_columns columns tables holders firsts nexts n
unfolding index_columns
all_put columns tables holders firsts nexts n a b c d e p q r s t = t ∙ rw (s, r, q, p)

module _ (halves tables holders firsts nexts : List ℕ) (n : ℕ) (few : n ≤ most_places) (room : all_columns ≤ length halves) where
  -- the columns as they are put, one after the other
  abbrev with_holders : List ℕ
  with_holders = put_from halves holder_column (λ id. get_or holders id 0) most_symbols

  abbrev with_firsts : List ℕ
  with_firsts = put_from with_holders first_column (λ id. get_or firsts id 0) most_symbols

  abbrev with_nexts : List ℕ
  with_nexts = put_from with_firsts next_column (λ i. get_or nexts i 0) n

  abbrev with_numbers : List ℕ
  with_numbers = put_from with_nexts number_column (row_number_at tables) n

  abbrev columns : List ℕ
  columns = index_columns halves tables holders firsts nexts n

  holders_room : all_columns ≤ length with_holders
  holders_room = omega (arith, room, put_size halves holder_column (λ id. get_or holders id 0) most_symbols)

  firsts_room : all_columns ≤ length with_firsts
  firsts_room = omega (arith, holders_room, put_size with_holders first_column (λ id. get_or firsts id 0) most_symbols)

  nexts_room : all_columns ≤ length with_nexts
  nexts_room = omega (arith, firsts_room, put_size with_firsts next_column (λ i. get_or nexts i 0) n)

  numbers_room : all_columns ≤ length with_numbers
  numbers_room = omega (arith, nexts_room, put_size with_nexts number_column (row_number_at tables) n)

  -- what stands before the column of tables, of numbers, of next rows was there when these were put
  before_tables : (j : ℕ) → j < table_column → get_or columns j 0 ≡ get_or with_numbers j 0
  unfolding index_columns
  before_tables j h = put_before with_numbers table_column (λ i. get_or tables i 0) n j h

  before_numbers : (j : ℕ) → j < number_column → get_or columns j 0 ≡ get_or with_nexts j 0
  before_numbers j h = before_tables j (omega arith) ∙ put_before with_nexts number_column (row_number_at tables) n j h

  before_nexts : (j : ℕ) → j < next_column → get_or columns j 0 ≡ get_or with_firsts j 0
  before_nexts j h = before_numbers j (omega arith) ∙ put_before with_firsts next_column (λ i. get_or nexts i 0) n j h

  pub holder_at : (id : ℕ) → id < most_symbols → get_or columns (holder_column + id) 0 ≡ get_or holders id 0
  holder_at id h =
      before_nexts (holder_column + id) (omega arith)
      ∙ put_before with_holders first_column (λ id. get_or firsts id 0) most_symbols (holder_column + id) (omega arith)
      ∙ put_at halves holder_column (λ id. get_or holders id 0) most_symbols id h (omega (arith, room))

  pub first_at : (id : ℕ) → id < most_symbols → get_or columns (first_column + id) 0 ≡ get_or firsts id 0
  first_at id h =
      before_nexts (first_column + id) (omega arith)
      ∙ put_at with_holders first_column (λ id. get_or firsts id 0) most_symbols id h (omega (arith, holders_room))

  pub next_at : (i : ℕ) → i < n → get_or columns (next_column + i) 0 ≡ get_or nexts i 0
  next_at i h =
      before_numbers (next_column + i) (omega arith) ∙ put_at with_firsts next_column (λ i. get_or nexts i 0) n i h (omega (arith, firsts_room))

  pub number_at : (i : ℕ) → i < n → get_or columns (number_column + i) 0 ≡ row_number_at tables i
  number_at i h =
      before_tables (number_column + i) (omega arith) ∙ put_at with_nexts number_column (row_number_at tables) n i h (omega (arith, nexts_room))

  pub table_at : (i : ℕ) → i < n → get_or columns (table_column + i) 0 ≡ get_or tables i 0
  unfolding index_columns
  table_at i h = put_at with_numbers table_column (λ i. get_or tables i 0) n i h (omega (arith, numbers_room))

  -- where lines start stays
  pub start_at : (j : ℕ) → start_column ≤ j → get_or columns j 0 ≡ get_or halves j 0
  unfolding index_columns
  start_at j h =
      put_after with_numbers table_column (λ i. get_or tables i 0) n j (omega arith)
      ∙ put_after with_nexts number_column (row_number_at tables) n j (omega arith)
      ∙ put_after with_firsts next_column (λ i. get_or nexts i 0) n j (omega arith)
      ∙ put_after with_holders first_column (λ id. get_or firsts id 0) most_symbols j (omega arith)
      ∙ put_after halves holder_column (λ id. get_or holders id 0) most_symbols j (omega arith)
