-- The calls with an index: a search of it, and its making.
use Rattle.std.specs.Prelude.{ℕ, ◌≡◌, refl, cond, List, [], ◌∷◌, ◌++◌, ltb, length, drop}
use Rattle.outcomes.specs.Outcome.{Outcome, refused, answer, and_then}
use Rattle.calls.specs.Tables.{asking}
use Rattle.packet_rows.specs.Packets.{packets_by}
use Rattle.packet_index.specs.Making.{index_of}
use Rattle.searching.specs.Search.{Compared, search_by}

-- 02, P4: "refused with 40, next after 1 and 2"
unfoldable pub search_of : List (List ℕ) → (index p : List ℕ) → Outcome Compared
search_of texts index p = asking texts (λ rows. search_by rows index p)

-- 01: "3 cells too few", here entries
unfoldable pub where_room : (room : ℕ) → List ℕ → Outcome (List ℕ)
where_room room index = cond (ltb room (length index)) (refused 3 0) (answer index)

-- the index of tables, where a list of so many entries has room for it
unfoldable pub made_of : List (List ℕ) → (room : ℕ) → Outcome (List ℕ)
made_of texts room = asking texts (λ rows. where_room room (index_of (packets_by rows)))

-- how many entries it has
unfoldable pub count_of : Outcome (List ℕ) → Outcome ℕ
count_of made = and_then made (λ index. answer (length index))

-- its entries in the first places of the list, further ones as they were. 01: "A refusal writes nothing"
unfoldable pub list_after : (before : List ℕ) → Outcome (List ℕ) → List ℕ
list_after before (refused number place) = before
list_after before (answer index) = index ++ drop (length index) before

pub record Examples : Type 0 where
  pub no_room : where_room 1 (2 ∷ 4 ∷ []) ≡ refused 3 0
  pub made : list_after (9 ∷ 9 ∷ 9 ∷ []) (where_room 3 (2 ∷ 4 ∷ [])) ≡ 2 ∷ 4 ∷ 9 ∷ []
  pub untouched : list_after (9 ∷ []) (where_room 1 (2 ∷ 4 ∷ [])) ≡ 9 ∷ []
  pub two : count_of (where_room 3 (2 ∷ 4 ∷ [])) ≡ answer 2

pub examples : Examples
unfolding where_room list_after count_of and_then
examples = record { no_room = refl; made = refl; untouched = refl; two = refl }
