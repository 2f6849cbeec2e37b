-- The calls with an index at the tables.
use mathlib.Core.Path.{◌≡◌, refl, sym, subst, ◌∙◌}
use mathlib.Core.Logic.{◌↔◌}
use mathlib.Core.Bool.{Bool, true, false}
use mathlib.Core.List.{List, map}
use Prim.Native.Nat.{ℕ, zero, suc, ◌≤◌}
use native.Mathlib.Omega.{arith}
use lib.ListN.{length, length-map}
use borrow.Author.Tests.{eqb-true}
use Rattle.laws.specs.Prefix.{count_with}
use Rattle.laws.proofs.Cases.{bool_cases, cond_cases, and_right}
use Rattle.headers.specs.Header.{head_of}
use Rattle.headers.specs.declared.Head.{Head}
use Rattle.verdicts.specs.Answer.{most_rows}
use Rattle.key_symbols.specs.declared.FiveNumbers.{FiveNumbers}
use Rattle.outcomes.specs.Outcome.{Outcome, refused, answer, and_then}
use Rattle.tables.specs.Sizes.{Sized, fit, refused_by, sizes_of}
use Rattle.kept.proofs.KeepingLaws.{sizes_taken}
use Rattle.database.specs.Rows.{Rows}
use Rattle.database.specs.GoodRows.{of_tables}
use Rattle.calls.specs.Tables.{after_sizes, asking}
use Rattle.calls.specs.Calls.{identify_of}
use Rattle.five_numbers.specs.Numbers.{five_numbers}
use Rattle.identification.specs.Identification.{identify_by}
use Rattle.packet_rows.specs.Packets.{packets_by}
use Rattle.packet_index.specs.Index.{Packets, is_packet, numbers_at, every, rising, is_index}
use Rattle.packet_index.specs.Making.{index_of}
use Rattle.packet_index.proofs.SearchLaws.{never_over_11}
use Rattle.packet_index.proofs.CountLaws.{index_by_count}
use Rattle.searching.specs.Search.{Compared, compared_by, search_by}
use Rattle.index_calls.specs.IndexCalls.{search_of}
use Rattle.index_laws.proofs.TableLaws.{search_identifies, tables_index}

-- 02, P4: "The answer, 25 included, equals 01's", also where the tables are refused
pub search_answers : (texts : List (List ℕ)) (index p : List ℕ) → is_index (packets_by (of_tables texts)) index ≡ true
    → and_then (search_of texts index p) (λ c. c.identity) ≡ identify_of texts p
unfolding search_of identify_of asking after_sizes and_then
search_answers texts index p is = go (sizes_of texts) refl
  where
    go : (s : Sized) → sizes_of texts ≡ s
        → and_then (after_sizes s (search_by (of_tables texts) index p)) (λ c. c.identity) ≡ after_sizes s (identify_by (of_tables texts) p)
    go fit e = search_identifies texts (sizes_taken texts e).1 index p is
    go (refused_by number place) e = refl

-- a list that is taken is the one that is made
pub made_taken : (texts : List (List ℕ)) → sizes_of texts ≡ fit
    → (index : List ℕ) → (is_index (packets_by (of_tables texts)) index ≡ true) ↔ (index ≡ index_of (packets_by (of_tables texts)))
made_taken texts e index =
    let one = tables_index texts (sizes_taken texts e).1 in
    (one.1 index, λ q. subst (λ (l : List ℕ). is_index (packets_by (of_tables texts)) l ≡ true) (sym q) one.0)

-- row 0 isn't counted
count_but_first : (f : ℕ → Bool) → f 0 ≡ false → (n : ℕ) → count_with f (suc n) ≤ n
unfolding count_with
count_but_first f e zero = rw e (omega arith)
count_but_first f e (suc n) =
    let c = count_but_first f e n in
    cond_cases (λ (m : ℕ). m ≤ suc n) (f (suc n)) (λ _. omega (arith, c)) (λ _. omega (arith, c))

pub index_few : (packets : Packets) (index : List ℕ) → is_index packets index ≡ true → length index ≤ most_rows
unfolding is_packet
index_few packets index is =
    let t = and_right (rising (map (numbers_at packets) index)) _ (and_right (every (is_packet packets) index) _ (sym (index_by_count packets index) ∙ is)) in
    omega (arith, eqb-true (length index) (count_with (is_packet packets) (suc most_rows)) t, count_but_first (is_packet packets) refl most_rows)

-- 02, P4: "never over 11"
pub few_compared : (rows : Rows) (index p : List ℕ) (c : Compared) → search_by rows index p ≡ answer c → c.compared ≤ 11
unfolding search_by compared_by and_then
few_compared rows index p c e = bool_cases (is_index (packets_by rows) index) (λ is. go is (head_of p) (rw is at e)) (λ no. refuse (rw no at e))
  where
    refuse : ◌≡◌ {A = Outcome Compared} (refused 40 0) (answer c) → c.compared ≤ 11
    refuse q = absurd (let z : ◌≡◌ {A = ℕ} 0 1 = cc in omega arith)

    told : is_index (packets_by rows) index ≡ true → (n : FiveNumbers) → (compared_by rows index n).compared ≤ 11
    told is n =
        let few = index_few (packets_by rows) index is in
        never_over_11 n (map (numbers_at (packets_by rows)) index) (omega (arith, few, length-map index (numbers_at (packets_by rows))))

    five : is_index (packets_by rows) index ≡ true → (o : Outcome FiveNumbers) → and_then o (λ n. answer (compared_by rows index n)) ≡ answer c → c.compared ≤ 11
    five is (refused number place) q = absurd (let z : ◌≡◌ {A = ℕ} 0 1 = cc in omega arith)
    five is (answer n) q = let same : compared_by rows index n ≡ c = cc in subst (λ (d : Compared). d.compared ≤ 11) same (told is n)

    go : is_index (packets_by rows) index ≡ true → (o : Outcome Head)
        → and_then o (λ head. and_then (five_numbers rows head p) (λ n. answer (compared_by rows index n))) ≡ answer c → c.compared ≤ 11
    go is (refused number place) q = absurd (let z : ◌≡◌ {A = ℕ} 0 1 = cc in omega arith)
    go is (answer head) q = five is (five_numbers rows head p) q
