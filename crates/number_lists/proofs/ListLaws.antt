-- Laws of a list of row numbers, as a walk meets them.
use mathlib.Core.Path.{◌≡◌}
use mathlib.Core.List.{List, []}
use mathlib.Core.Option.{Option, some, none}
use Prim.Native.Nat.{ℕ, ◌+◌, ◌<◌, ◌≤◌}
use lib.ListN.{length, get_or, drop, drop_of_length-le}
use borrow.Author.Tests.{eq-eqb, ne_eqb, lt-ltb, le-ltb}
use Rattle.laws.proofs.Lists.{split}
use Rattle.lines.specs.Columns.{columns_of}
use Rattle.std.specs.Prelude.{Some, None}
use Rattle.scripts.specs.Numerals.{natural_in, at_most}
use Rattle.escapes.specs.Escapes.{before}
use Rattle.number_lists.specs.Lists.{before_number, row_numbers_in, where_entries, list_in}

module _ (columns : List (List ℕ)) (k : ℕ) where
  pub number_here : (n : ℕ) → k < length columns → at_most 65535 (natural_in (get_or columns k [])) ≡ Some n
      → row_numbers_in (drop k columns) ≡ before n (row_numbers_in (drop (k + 1) columns))
  unfolding row_numbers_in before_number
  number_here n h e = rw (split columns k [] h, e)

  pub number_none : k < length columns → at_most 65535 (natural_in (get_or columns k [])) ≡ None → row_numbers_in (drop k columns) ≡ none
  unfolding row_numbers_in before_number
  number_none h e = rw (split columns k [] h, e)

  pub numbers_end : length columns ≤ k → row_numbers_in (drop k columns) ≡ some []
  unfolding row_numbers_in
  numbers_end h = rw (drop_of_length-le columns h)

module _ (room : ℕ) (columns : List (List ℕ)) (numbers : Option (List ℕ)) where
  pub entries_fit : length columns ≤ room → where_entries room columns numbers ≡ numbers
  unfolding where_entries
  entries_fit h = rw (le-ltb room (length columns) h)

  pub entries_not : room < length columns → where_entries room columns numbers ≡ none
  unfolding where_entries
  entries_not h = rw (lt-ltb room (length columns) h)

module _ (room : ℕ) (text : List ℕ) where
  pub list_none : length text ≡ 0 → list_in room text ≡ some []
  unfolding list_in
  list_none h = rw (eq-eqb (length text) 0 h)

  pub list_some : (length text ≡ 0 → ⊥) → list_in room text ≡ where_entries room (columns_of text) (row_numbers_in (columns_of text))
  unfolding list_in
  list_some n = rw (ne_eqb (length text) 0 n)
