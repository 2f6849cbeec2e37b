-- The rows that the columns give for a group are the good rows that are counted in it, in table order.
use mathlib.Core.Path.{◌≡◌, ap, sym, ◌∙◌}
use mathlib.Core.Bool.{Bool, true, ◌&&◌}
use mathlib.Core.List.{List, map}
use Prim.Native.Nat.{ℕ, suc, ◌+◌, ◌-◌, ◌≤◌, ◌<◌}
use native.Mathlib.Omega.{arith}
use lib.Dec.{eqb}
use lib.ListN.{length, get_or, take, drop, replicate, length-replicate, get_or-replicate}
use lib.Seq.{get_or-drop, take_all}
use borrow.Author.Tests.{eqb-true, lt-ltb}
use Rattle.laws.specs.Lists.{keep}
use Rattle.laws.specs.Prefix.{first_from, all_from}
use Rattle.laws.proofs.Cases.{and_left, and_right, and_false}
use Rattle.laws.proofs.Places.{keep_all, all_same, all_none}
use Rattle.arrays.specs.Room.{most_places}
use Rattle.symbols.specs.declared.Symbol.{Symbol}
use Rattle.symbols.specs.Arrays.{symbols, most_symbols}
use Rattle.passes.specs.Marked.{has_id}
use Rattle.passes.specs.Groups.{first_row, chain}
use Rattle.verdicts.specs.Key.{Key}
use Rattle.verdicts.specs.Entries.{all_rows}
use Rattle.verdicts.specs.Steps.{belongs}
use Rattle.verdicts.specs.Places.{rows_before}
use Rattle.verdicts.proofs.EntryLaws.{rows_before_next}
use Rattle.verdicts.proofs.OwnerLaws.{table_index, group_table}
use Rattle.meaning.specs.Kept as meaning
use Rattle.meaning.specs.Kept.{key_id, Known}
use Rattle.kept.specs.Stored.{at, kept_table_column, group_column}
use Rattle.judged.specs.Passes.{column_of}
use Rattle.judged.proofs.Held.{coding}
use Rattle.database.specs.Rows.{Row}
use Rattle.database.specs.Arrays.{most_members, first_column, next_column, row_at, keyed_by, group_places}
use Rattle.database.specs.GoodRows.{rows_in, is_good, good_rows, is_in_group}
use Rattle.loading.proofs.ListLaws.{keep_keep, map_all, all_few}
use Rattle.loading.proofs.ChainLaws.{chain_takes, chain_none}
use Rattle.loading.proofs.RowLaws.{no_row, row_in, row_there, length_rows_in}
use Rattle.loading.proofs.GoodLaws.{good_at}
use Rattle.loading.proofs.IdLaws.{known_cases, id_few, keyed_known, keyed_none}
use Rattle.loading.proofs.KeyLaws.{good_belongs, none_belongs}
use Rattle.loading.proofs.GroupTables.{group_table_lem, few_lines}
use Rattle.loading.proofs.IndexedRows.{IndexedRows, row_is, mark_at, row_belongs}

-- chained from nothing
first_row_lem : (m : ℕ) (marks ids : List ℕ) (id lo n : ℕ) → id < m → first_row marks ids (replicate m 0) id lo n ≡ first_from (has_id marks ids id) 0 lo (n - lo)
unfolding first_row
first_row_lem m marks ids id lo n h =
    let l : length {A = ℕ} (replicate m 0) ≡ m = length-replicate {A = ℕ} m 0 in
    rw (lt-ltb id (length {A = ℕ} (replicate m 0)) (omega arith), get_or-replicate {A = ℕ} m id 0 0 h)

module _ {texts : List (List ℕ)} {words links : List ℕ} {count : ℕ} {halves bytes cells columns : List ℕ}
    (r : IndexedRows texts words links count halves bytes cells columns) (k : Key) where
  abbrev n : ℕ
  n = length (all_rows texts)

  abbrev ls : List Symbol
  ls = symbols words count

  abbrev marks : List ℕ
  marks = r.index.marks

  abbrev group : List ℕ
  group = column_of halves group_column

  abbrev first : ℕ
  first = keyed_by words links columns first_column k

  abbrev passes : Row → Bool
  passes row = is_good texts row && is_in_group k row

  -- row i is good and counted in the group
  abbrev member : ℕ → Bool
  member i = passes (row_in texts i)

  member_is : (i : ℕ) → i < n → member i ≡ (good_at texts i && belongs (meaning.kept_entry (all_rows texts) i) k)
  member_is i p = row_belongs r i p k

  -- all are of one table
  in_table : (i : ℕ) → i < n → member i ≡ true → at bytes kept_table_column i ≡ table_index (group_table k)
  unfolding is_in_group
  in_table i p e =
      let w = r.situated i p in
      group_table_lem (at bytes kept_table_column i) (row_in texts i).bytes k w.below
      (rw (ap (λ (row : Row). row.table) (row_there w)) at (and_right (is_good texts (row_in texts i)) _ e))

  few_members : length (all_from member 0 n) ≤ most_members
  few_members =
      let t : ℕ = table_index (group_table k) in
      let h = all_few member (rows_before texts t) (rows_before texts (suc t)) 0 n
      (λ i _ p e. let q : i < n = omega arith in
      let w = r.situated i q in
      let z = in_table i q e in
      (rw z at w.low, rw z at w.high)) in
      omega (arith, h, rows_before_next texts t, few_lines texts r.fits t)

  module _ (q : Known coding ls k) where
    abbrev id : ℕ
    id = key_id coding ls k

    few : id < most_symbols
    few = id_few r.held.stored.table r.held.stored.small k q

    member_id : (i : ℕ) → i < n → member i ≡ has_id marks group id i
    member_id i p = member_is i p ∙ good_belongs texts r.held marks (mark_at r) k q i p

    -- a member leads to the next
    linked : (j : ℕ) → j < n → has_id marks group id j ≡ true
        → get_or (drop next_column columns) j 0 ≡ first_from (has_id marks group id) 0 (j + 1) (n - (j + 1))
    unfolding has_id
    linked j p e =
        let l : length {A = ℕ} (replicate most_places 0) ≡ most_places = length-replicate {A = ℕ} most_places 0 in
        let s : get_or group j 0 ≡ id = eqb-true _ _ (and_left (eqb (get_or group j 0) id) _ e) in
        get_or-drop next_column columns j 0
        ∙ r.index.next j p
        ∙ r.index.groups.next j (omega arith) p (omega (arith, r.held.stored.few))
        ∙ ap (λ (x : ℕ). first_row marks group (replicate most_symbols 0) x (j + 1) n) s
        ∙ first_row_lem most_symbols marks group id (j + 1) n few

    places_known : group_places columns first ≡ all_from member 0 n
    unfolding group_places
    places_known =
        let f : ℕ → Bool = has_id marks group id in
        let z : n - 0 ≡ n = omega arith in
        let e : first ≡ first_from f 0 0 n =
        keyed_known r.held.stored.table r.held.stored.small k q columns first_column ∙ r.index.first id few
        ∙ r.index.groups.first id ∙ first_row_lem most_symbols marks group id 0 n few ∙ ap (first_from f 0 0) z in
        let s : all_from member 0 n ≡ all_from f 0 n = all_same member f 0 n (λ i _ p. member_id i (omega arith)) in
        ap (chain (drop next_column columns) most_members) e
        ∙ chain_takes f (drop next_column columns) n linked n 0 most_members (omega arith)
        ∙ ap (take most_members) (sym s)
        ∙ take_all most_members (all_from member 0 n) few_members

  places_none : (Known coding ls k → ⊥) → group_places columns first ≡ all_from member 0 n
  unfolding group_places
  places_none z =
      ap (chain (drop next_column columns) most_members) (keyed_none r.held.stored.table r.held.stored.small k z columns first_column)
      ∙ chain_none (drop next_column columns) most_members
      ∙ sym (all_none member 0 n
      (λ i _ p. let q : i < n = omega arith in
      member_is i q ∙ ap (λ (t : Bool). good_at texts i && t) (none_belongs texts r.held k z i q) ∙ and_false (good_at texts i)))

  -- the places that are met from the group's first row on are those of its members
  places_are : group_places columns first ≡ all_from member 0 n
  places_are = known_cases r.held.stored.table r.held.stored.small k places_known places_none

  -- THE LAW OF MEMBERS
  pub members_are : map (row_at texts columns) (group_places columns (keyed_by words links columns first_column k)) ≡ keep (is_in_group k) (good_rows texts)
  unfolding good_rows
  members_are =
      ap (map (row_at texts columns)) places_are
      ∙ map_all member (row_at texts columns) (row_in texts) 0 n (λ i _ p. row_is r i (omega arith))
      ∙ ap (λ (m : ℕ). map (row_in texts) (all_from member 0 m)) (sym (length_rows_in texts))
      ∙ sym (keep_all no_row passes (rows_in texts))
      ∙ sym (keep_keep (is_good texts) (is_in_group k) (rows_in texts))
