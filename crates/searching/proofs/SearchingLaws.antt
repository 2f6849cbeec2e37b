-- The row of the entry that was found.
use mathlib.Core.Path.{◌≡◌, refl, ap, sym, ◌∙◌}
use mathlib.Core.Bool.{Bool, true, false, cond, not, ◌&&◌}
use mathlib.Core.List.{List, map}
use mathlib.Core.Option.{none, some}
use Prim.Native.Nat.{ℕ, ◌-◌, ◌<◌}
use native.Mathlib.Omega.{arith}
use lib.Dec.{eqb}
use lib.ListN.{length, get_or, length-map}
use borrow.Author.Tests.{eqb-true}
use Rattle.decoding.specs.Records.{pid_row}
use Rattle.units.specs.declared.Spid.{Spid}
use Rattle.key_symbols.specs.declared.FiveNumbers.{FiveNumbers}
use Rattle.outcomes.specs.Outcome.{Outcome, refused, answer, and_then}
use Rattle.headers.specs.Header.{head_of}
use Rattle.database.specs.Rows.{Row, Rows}
use Rattle.database.specs.Arrays.{Database, database, row_at, packet_at, answers}
use Rattle.five_numbers.specs.Numbers.{five_numbers}
use Rattle.identification.specs.Identification.{chosen}
use Rattle.packet_rows.specs.Packets.{numbers_from, packets_by}
use Rattle.packet_index.specs.declared.Searched.{Searched}
use Rattle.packet_index.specs.Index.{Packets, is_packet, numbers_at, is_index}
use Rattle.packet_index.specs.Search.{searched}
use Rattle.packet_index.proofs.IndexLaws.{packet_from, index_found}
use Rattle.packet_index.proofs.SearchLaws.{found_stands}
use Rattle.index_entries.specs.Loaded.{packets_in}
use Rattle.searching.specs.Search.{Compared, entry_row, compared_by, search_by}

-- of equal numbers
pub same_compared : (rows : Rows) (index : List ℕ) {n m : FiveNumbers} {o : Compared} → o ≡ compared_by rows index n → n ≡ m
    → answer o ≡ answer (compared_by rows index m)
same_compared rows index e q = ap answer (e ∙ ap (compared_by rows index) q)

-- the row of a number, in a database: the row after number − 1 others, which has that number
module _ (d : Database) (number : ℕ) (n : FiveNumbers) where
  abbrev row : Row
  row = row_at d.texts d.columns (number - 1)

  by : (a b c : Bool) → eqb row.number number ≡ b → numbers_from (cond (a && (b && c)) (some row) none) ≡ some n
      → (cond (a && (b && c)) (some row) none ≡ some row) × (row.number ≡ number)
  by true true true q f = (refl, eqb-true _ _ q)
  by true true false q f = absurd (let z : ◌≡◌ {A = ℕ} 0 1 = cc in omega arith)
  by true false c q f = absurd (let z : ◌≡◌ {A = ℕ} 0 1 = cc in omega arith)
  by false b c q f = absurd (let z : ◌≡◌ {A = ℕ} 0 1 = cc in omega arith)

  in_database : packets_by (answers d) number ≡ some n → ((answers d).numbered number ≡ some row) × (row.number ≡ number)
  unfolding packets_by answers packet_at
  in_database e = by (not (eqb number 0)) _ _ refl e

module _ (texts : List (List ℕ)) (words links columns index : List ℕ) (n : FiveNumbers) where
  abbrev rows : Rows
  rows = answers (database texts words links columns)

  abbrev packets : Packets
  packets = packets_in texts words links columns

  abbrev result : Searched
  result = searched n (map (numbers_at packets) index)

  -- nothing is found
  pub none_found : {s : Searched} → s ≡ result → s.found ≡ false
      → record { identity = refused 25 0; compared = s.compared } ≡ compared_by rows index n
  unfolding compared_by entry_row chosen
  none_found e f = let g : result.found ≡ false = ap (λ (s : Searched). s.found) (sym e) ∙ f in rw (e, g) refl

  module _ (is : is_index packets index ≡ true) {s : Searched} (e : s ≡ result) (f : s.found ≡ true) where
    found : result.found ≡ true
    found = ap (λ (s : Searched). s.found) (sym e) ∙ f

    -- an entry is found
    pub place_below : s.place < length index
    place_below = rw e (omega (arith, (found_stands n (map (numbers_at packets) index) found).0, length-map index (numbers_at packets)))

    abbrev entry : ℕ
    entry = get_or index s.place 0

    told : (is_packet packets entry ≡ true) × (packets entry ≡ some n)
    told = rw e (index_found packets index is n found)

    pub entry_from : 0 < entry
    entry_from = packet_from packets entry told.0

    pub entry_found : {spid : Spid} → spid ≡ (pid_row (row_at texts columns (entry - 1)).bytes).spid
        → record { identity = answer (record { row = entry; spid = spid.0; numbers = n }); compared = s.compared } ≡ compared_by rows index n
    unfolding compared_by entry_row chosen
    entry_found q =
        let d = in_database (database texts words links columns) entry n told.1 in
        let h : cond result.found (rows.numbered (get_or index result.place 0)) none ≡ some (row_at texts columns (entry - 1)) =
        rw (found, ← e) d.0 in
        rw (h, q, d.1, ← e) refl

module _ (rows : Rows) (index p : List ℕ) where
  -- 02, P4: "refused with 40 …, unless"
  pub list_refused : is_index (packets_by rows) index ≡ false → refused 40 0 ≡ search_by rows index p
  unfolding search_by
  list_refused e = rw e

  pub list_taken : is_index (packets_by rows) index ≡ true → {o : Outcome Compared}
      → o ≡ and_then (head_of p) (λ head. and_then (five_numbers rows head p) (λ n. answer (compared_by rows index n))) → o ≡ search_by rows index p
  unfolding search_by
  list_taken e q = rw e q
