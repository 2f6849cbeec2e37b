-- Which packet it is, by a search of an index of the pid rows.
use Rattle.std.specs.Prelude as std
use Rattle.std.specs.Prelude.{ℕ, ◌≡◌, refl, cond, List, [], ◌∷◌, map, get_or, Some, None, Result, Ok, Err}
use Rattle.std.proofs.Math.Option.{Option, none}
use Rattle.laws.specs.Prefix.{any_with}
use Rattle.numbers.specs.Number.{digit_of, digit_on, after, spelt, meaning, number_of}
use Rattle.lines.specs.Columns.{columns_from, columns_of}
use Rattle.rows.specs.Values.{natural_from, natural_or, letter_of, valid_of}
use Rattle.decoding.specs.Records.{column, pid_row}
use Rattle.key_symbols.specs.declared.FiveNumbers.{FiveNumbers}
use Rattle.outcomes.specs.Outcome.{Outcome, refused, answer, and_then}
use Rattle.outcomes.specs.Refusals.{refused_by}
use Rattle.outcomes.specs.declared.Refusal.{Refusal}
use Rattle.headers.specs.Header.{head_of}
use Rattle.database.specs.Rows.{Row, Rows}
use Rattle.database.specs.Packets.{numbers_in, is_packet_row, pid_example}
use Rattle.database.specs.GoodRows.{among, find}
use Rattle.five_numbers.specs.Numbers.{five_numbers}
use Rattle.identification.specs.Identification.{Identity, chosen}
use Rattle.packet_rows.specs.Packets.{packets_by}
use Rattle.packet_index.specs.declared.Searched.{Searched}
use Rattle.packet_order.specs.Order.{first_then, in_order, compared}
use Rattle.packet_index.specs.Index.{is_packet, numbers_at, rising_from, rising, every, missing, is_index}
use Rattle.packet_index.specs.Search.{search_from, searched}
use Rattle.searching.specs.declared.Search.{Search}
use Rattle.identification.specs.declared.Identity as found

-- 02, P4: "The answer, 25 included, … tells how many entries were compared"
pub record Compared : Type 0 where
  pub identity : Outcome Identity
  pub compared : ℕ

-- the row of the entry that was found
unfoldable pub entry_row : Rows → (index : List ℕ) → Searched → Option Row
entry_row rows index s = cond s.found (rows.numbered (get_or index s.place 0)) none

-- what a search finds for five numbers: "25 no good VALID Y pid row" where it finds none
unfoldable pub compared_by : Rows → (index : List ℕ) → FiveNumbers → Compared
compared_by rows index n =
    let s : Searched = searched n (map (numbers_at (packets_by rows)) index) in
    record { identity = chosen n (entry_row rows index s); compared = s.compared }

-- 02, P4: "Search a lent list of pid row numbers, refused with 40, next after 1 and 2, unless it is exactly the good
-- VALID Y rows, rising"
unfoldable pub search_by : Rows → (index p : List ℕ) → Outcome Compared
search_by rows index p =
    cond (is_index (packets_by rows) index)
    (and_then (head_of p) (λ head. and_then (five_numbers rows head p) (λ n. answer (compared_by rows index n))))
    (refused 40 0)

-- 01's number and values of each case
unfoldable pub identity_in : std.Option found.Identity → Outcome Identity
identity_in (Some id) = answer (record { row = id.row.0; spid = id.spid.0; numbers = id.numbers })
identity_in None = refused 25 0

abbrev pub compared_in : Search → Compared
compared_in s = record { identity = identity_in s.found; compared = s.compared }

unfoldable pub said_search : Result Search Refusal → Outcome Compared
said_search (Ok s) = answer (compared_in s)
said_search (Err refusal) = refused_by refusal

-- by pid row 7, and by none
abbrev one_row : Rows
one_row = among (pid_example 7 "3;25;10;4660;0;1000" ∷ [])

abbrev five : FiveNumbers
five = record { ptype = 3; stype = 25; apid = 10; pi1 = 4660; pi2 = 0 }

pub record Examples : Type 0 where
  pub found : compared_by one_row (7 ∷ []) five ≡ record { identity = answer (record { row = 7; spid = 1000; numbers = five }); compared = 1 }
  pub not_found : compared_by (among []) [] five ≡ record { identity = refused 25 0; compared = 0 }
  -- a packet of no bytes is under 7, but a list that isn't the index is told first
  pub list_first : search_by (among []) (1 ∷ []) [] ≡ refused 40 0
  pub then_packet : search_by (among []) [] [] ≡ refused 20 0

pub examples : Examples
unfolding
    compared_by entry_row search_by chosen and_then head_of packets_by among find is_packet_row numbers_in
    is_index is_packet numbers_at rising_from rising every missing any_with searched search_from compared in_order first_then
    pid_row column columns_of columns_from natural_or natural_from number_of meaning spelt after digit_on digit_of letter_of valid_of
examples = record { found = refl; not_found = refl; list_first = refl; then_packet = refl }
