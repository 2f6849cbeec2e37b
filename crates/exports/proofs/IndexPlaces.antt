-- The place of every refusal of the calls with an index is small.
use mathlib.Core.Path.{◌≡◌}
use mathlib.Core.List.{List, map}
use mathlib.Core.Option.{Option, none, some}
use Prim.Native.Nat.{ℕ, ◌^◌, ◌<◌}
use native.Mathlib.Omega.{arith}
use lib.Dec.{eqb, ltb}
use lib.ListN.{length}
use Rattle.laws.proofs.Cases.{cond_cases}
use Rattle.verdicts.specs.Answer.{too_long, too_many_rows}
use Rattle.verdicts.specs.Entries.{table_count}
use Rattle.tables.specs.Sizes.{Sized, sizes_of}
use Rattle.headers.specs.Header.{head_of}
use Rattle.key_symbols.specs.declared.FiveNumbers.{FiveNumbers}
use Rattle.outcomes.specs.Outcome.{Outcome, refused, answer, and_then}
use Rattle.database.specs.Rows.{Row, Rows}
use Rattle.database.specs.GoodRows.{of_tables}
use Rattle.five_numbers.specs.Numbers.{five_numbers}
use Rattle.identification.specs.Identification.{chosen}
use Rattle.packet_rows.specs.Packets.{packets_by}
use Rattle.packet_index.specs.declared.Searched.{Searched}
use Rattle.packet_index.specs.Index.{numbers_at, is_index}
use Rattle.packet_index.specs.Search.{searched}
use Rattle.packet_index.specs.Making.{index_of}
use Rattle.searching.specs.Search.{Compared, entry_row, compared_by, search_by}
use Rattle.calls.specs.Tables.{after_sizes, asking}
use Rattle.index_calls.specs.IndexCalls.{search_of, where_room, made_of, count_of}
use Rattle.refusal_places.specs.Small.{place_in, Small}
use Rattle.refusal_places.proofs.SmallLaws.{small_answer, no_place, small_then}
use Rattle.refusal_places.proofs.RowRanges.{InRanges, tables_in_ranges}
use Rattle.refusal_places.proofs.PacketPlaces.{head_small, five_small}
use Rattle.refusal_places.proofs.TablePlaces.{long_small, many_small}
use Rattle.refusal_places.proofs.CallPlaces.{asking_small}
use Rattle.index_telling.specs.Values.{of_compared, plain_search}

module _ (texts : List (List ℕ)) (all : length texts ≡ table_count) where
  room_small : (room : ℕ) (index : List ℕ) → Small (where_room room index)
  unfolding where_room
  room_small room index = cond_cases (λ (o : Outcome (List ℕ)). Small o) (ltb room (length index)) (λ _. no_place 3) (λ _. small_answer _)

  pub made_small : (room : ℕ) → Small (count_of (made_of texts room))
  unfolding count_of made_of
  made_small room =
      small_then (made_of texts room) _
      (asking_small texts all (λ rows. where_room room (index_of (packets_by rows))) (λ rows _. room_small room (index_of (packets_by rows))))
      (λ index _. small_answer _)

-- of a search

abbrev Places : Outcome Compared → Type 0
Places o = (plain_search o).place < 2 ^ 32

places_then : {A : Type 0} (o : Outcome A) (f : A → Outcome Compared) → Small o → ((a : A) → Places (f a)) → Places (and_then o f)
unfolding and_then plain_search place_in
places_then (refused number place) f s h = s.below
places_then (answer a) f s h = h a

compared_places : (rows : Rows) (index : List ℕ) (n : FiveNumbers) → Places (answer (compared_by rows index n))
unfolding plain_search compared_by of_compared chosen
compared_places rows index n =
    let s : Searched = searched n (map (numbers_at (packets_by rows)) index) in
    go s.compared (entry_row rows index s)
  where
    go : (compared : ℕ) (o : Option Row) → (of_compared compared (chosen n o)).place < 2 ^ 32
    go compared none = omega arith
    go compared (some row) = omega arith

search_places : (rows : Rows) → InRanges rows → (index p : List ℕ) → Places (search_by rows index p)
unfolding search_by plain_search
search_places rows ranges index p =
    cond_cases Places (is_index (packets_by rows) index)
    (λ _. places_then (head_of p) _ (head_small p)
    (λ head. places_then (five_numbers rows head p) _ (five_small rows ranges p head) (compared_places rows index)))
    (λ _. omega arith)

pub search_of_places : (texts : List (List ℕ)) → length texts ≡ table_count → (index p : List ℕ) → Places (search_of texts index p)
unfolding search_of asking after_sizes sizes_of plain_search
search_of_places texts all index p =
    let o : Outcome Compared = search_by (of_tables texts) index p in
    cond_cases (λ (s : Sized). Places (after_sizes s o)) (eqb (too_long texts) 0)
    (λ _. cond_cases (λ (s : Sized). Places (after_sizes s o)) (eqb (too_many_rows texts) 0)
    (λ _. search_places (of_tables texts) (tables_in_ranges texts) index p) (λ _. many_small texts all))
    (λ _. long_small texts all)
