-- The index of tables: exactly one, and its search answers what identification does.
use mathlib.Core.Path.{◌≡◌, refl, ap, sym, ◌∙◌}
use mathlib.Core.Bool.{Bool, true, cond}
use mathlib.Core.List.{List, map}
use mathlib.Core.Option.{Option, none, some}
use Prim.Native.Nat.{ℕ}
use native.Mathlib.Omega.{arith}
use lib.ListN.{get_or}
use Rattle.headers.specs.Header.{head_of}
use Rattle.headers.specs.declared.Head.{Head}
use Rattle.verdicts.specs.Answer.{too_many_rows}
use Rattle.key_symbols.specs.declared.FiveNumbers.{FiveNumbers}
use Rattle.key_symbols.specs.Bounded.{packet_of}
use Rattle.outcomes.specs.Outcome.{Outcome, refused, answer, and_then}
use Rattle.database.specs.Rows.{Row, Rows}
use Rattle.database.specs.Packets.{numbers_in}
use Rattle.database.specs.GoodRows.{of_tables}
use Rattle.five_numbers.specs.Numbers.{five_numbers}
use Rattle.identification.specs.Identification.{chosen, choose_by, identify_headed, identify_by}
use Rattle.packet_rows.specs.Packets.{numbers_from, packets_by}
use Rattle.packet_index.specs.Index.{Packets, numbers_at, is_index}
use Rattle.packet_index.specs.Search.{searched}
use Rattle.packet_index.specs.Making.{index_of}
use Rattle.packet_index.proofs.IndexLaws.{packet_some, index_finds, index_misses}
use Rattle.packet_index.proofs.MakingLaws.{Apart, exactly_one}
use Rattle.searching.specs.Search.{entry_row, compared_by, search_by}
use Rattle.index_laws.proofs.HolderLaws.{numbered_tells, numbered_held, held_numbered, number_within}

-- numbers that a number gives are of a row
pub record FromRow (rows : Rows) (number : ℕ) (n : FiveNumbers) : Type 0 where
  pub row : Row
  pub there : rows.numbered number ≡ some row
  pub numbers : numbers_in row ≡ n

pub from_row : (rows : Rows) (number : ℕ) (n : FiveNumbers) → packets_by rows number ≡ some n → FromRow rows number n
unfolding packets_by
from_row rows number n e = go (rows.numbered number) refl e
  where
    go : (o : Option Row) → rows.numbered number ≡ o → numbers_from o ≡ some n → FromRow rows number n
    go none q f = absurd (let z : ◌≡◌ {A = ℕ} 0 1 = cc in omega arith)
    go (some row) q f = record { row = row; there = q; numbers = cc }

packets_of : (rows : Rows) (number : ℕ) (row : Row) → rows.numbered number ≡ some row → packets_by rows number ≡ some (numbers_in row)
unfolding packets_by
packets_of rows number row e = rw e

module _ (texts : List (List ℕ)) (taken : too_many_rows texts ≡ 0) where
  abbrev rows : Rows
  rows = of_tables texts

  abbrev packets : Packets
  packets = packets_by rows

  -- 01: "the first five numbers are unique"
  pub tables_apart : Apart packets
  tables_apart r s p q e =
      let a = from_row rows r (numbers_at packets r) (packet_some packets r p) in
      let b = from_row rows s (numbers_at packets s) (packet_some packets s q) in
      let h = numbered_held texts r a.row a.there in
      let i = numbered_held texts s b.row b.there in
      let n : numbers_in a.row ≡ numbers_in b.row = a.numbers ∙ e ∙ sym b.numbers in
      let o : some a.row ≡ some b.row = sym h ∙ ap (λ (m : FiveNumbers). rows.holder (packet_of m)) n ∙ i in
      let same : a.row ≡ b.row = cc in
      sym (numbered_tells texts r a.row a.there).number ∙ ap (λ (row : Row). row.number) same ∙ (numbered_tells texts s b.row b.there).number

  -- there is exactly one index
  pub tables_index : (is_index packets (index_of packets) ≡ true) × ((index : List ℕ) → is_index packets index ≡ true → index ≡ index_of packets)
  tables_index = exactly_one packets tables_apart

  module _ (index : List ℕ) (is : is_index packets index ≡ true) (n : FiveNumbers) where
    abbrev found : Bool
    found = (searched n (map (numbers_at packets) index)).found

    -- the entry that is found is the row that holds the numbers' key
    entry_held : entry_row rows index (searched n (map (numbers_at packets) index)) ≡ rows.holder (packet_of n)
    unfolding entry_row
    entry_held = go (rows.holder (packet_of n)) refl
      where
        go : (o : Option Row) → rows.holder (packet_of n) ≡ o
            → cond found (rows.numbered (get_or index (searched n (map (numbers_at packets) index)).place 0)) none ≡ o
        go (some row) e =
            let h = held_numbered texts n row e in
            let w = number_within texts taken row (numbered_tells texts row.number row h.0).good in
            let f = index_finds packets index is row.number n w.0 w.1 (packets_of rows row.number row h.0 ∙ ap some h.1) in
            rw (f.0, f.1) h.0
        go none e =
            let f = index_misses packets index is n (λ r p q. let a = from_row rows r n q in nothing a e) in
            rw f refl
          where
            nothing : {r : ℕ} → FromRow rows r n → rows.holder (packet_of n) ≡ none → ⊥
            nothing {r} a e =
                let h = numbered_held texts r a.row a.there in
                let m : rows.holder (packet_of n) ≡ some a.row = ap (λ (m : FiveNumbers). rows.holder (packet_of m)) (sym a.numbers) ∙ h in
                let z : ◌≡◌ {A = ℕ} 0 1 = cc in
                omega arith

    compared_is : (compared_by rows index n).identity ≡ choose_by rows n
    unfolding compared_by choose_by
    compared_is = ap (chosen n) entry_held

  -- 02, P4: "The answer, 25 included, equals 01's"
  pub search_identifies : (index p : List ℕ) → is_index packets index ≡ true → and_then (search_by rows index p) (λ c. c.identity) ≡ identify_by rows p
  unfolding search_by identify_by identify_headed and_then
  search_identifies index p is = rw is (go (head_of p))
    where
      five : (o : Outcome FiveNumbers)
          → and_then (and_then o (λ n. answer (compared_by rows index n))) (λ c. c.identity) ≡ and_then o (choose_by rows)
      five (refused number place) = refl
      five (answer n) = compared_is index is n

      go : (o : Outcome Head) → and_then (and_then o (λ head. and_then (five_numbers rows head p) (λ n. answer (compared_by rows index n)))) (λ c. c.identity)
          ≡ and_then o (λ head. and_then (five_numbers rows head p) (choose_by rows))
      go (refused number place) = refl
      go (answer head) = five (five_numbers rows head p)
