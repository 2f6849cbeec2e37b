-- The rows of the tables can be told apart, and hold at most two keys and belong to at most one group.
use mathlib.Core.Path.{◌≡◌, refl, ap, sym, subst, ◌∙◌}
use mathlib.Core.Bool.{Bool, true, false, cond}
use mathlib.Core.List.{List, [], ◌∷◌, ◌++◌}
use Prim.Native.Nat.{ℕ, zero, suc, ◌+◌, ◌-◌, ◌≤◌, ◌<◌}
use native.Mathlib.Omega.{arith}
use native.Mathlib.Decide.{ℕ_discrete}
use lib.Dec.{eqb, ltb}
use lib.ListN.{length, get_or, length-append, get_or-append}
use lib.Seq.{get_or-append-add}
use borrow.Author.Tests.{eqb-true, eq-eqb, ne_eqb, ltb-true, ltb-false}
use Rattle.laws.proofs.Cases.{bool_cases, and_left, and_right}
use Rattle.laws.proofs.Lists.{at_mem}
use Rattle.lines.specs.Lines.{Line, lines_of}
use Rattle.name_bytes.specs.Names.{same_bytes}
use Rattle.schemas.specs.declared.Table.{Table}
use Rattle.schemas.specs.declared.Table.TheVariants.{Pid, Pic, Plf, Pcf, Caf, Cap, Txf, Txp, Ocf, Ocp, Mcf}
use Rattle.decoding.specs.Records.{pid_row}
use Rattle.formed.specs.Formed.{formed}
use Rattle.rows.specs.declared.records.PidRow.{PidRow}
use Rattle.rows.specs.declared.letters.Valid.{Valid}
use Rattle.rows.specs.declared.letters.Valid.TheVariants.{Yes, No}
use Rattle.verdicts.specs.Key.{key_words, same_key}
use Rattle.verdicts.specs.Facts.{Facts, pid_keys, facts_of}
use Rattle.verdicts.specs.Facts.{pid_facts, pic_facts, plf_facts, pcf_facts, caf_facts, cap_facts, txf_facts, txp_facts, ocf_facts, ocp_facts, mcf_facts}
use Rattle.verdicts.specs.Entries.{Entry, bad, fine, reading_of, facts_in, facts, entry, entries_of, entries_from, all_rows}
use Rattle.verdicts.specs.Steps.{twin}
use Rattle.verdicts.specs.Places.{entry_at}
use Rattle.verdicts.proofs.EntryLaws.{length_entries, row_of}
use Rattle.meaning.specs.Kept.{AtMostTwo, zero_keys, one_key, two_keys, AtMostOne, no_group, one_group, no_entry, kept_entry, ToldApart}

-- ---- rows by their tables and numbers

abbrev Differ : Entry → Entry → Type 0
Differ e o = e.table ≡ o.table → e.row ≡ o.row → ⊥

entries_place : (table : Table) (t row : ℕ) (lines : List Line) (d : Entry) (j : ℕ) → j < length lines
    → ((get_or (entries_of table t row lines) j d).table ≡ t) × ((get_or (entries_of table t row lines) j d).row ≡ row + j)
unfolding entries_of
entries_place table t row [] d j h = absurd (omega arith)
entries_place table t row (line ∷ lines) d zero h = (refl, omega arith)
entries_place table t row (line ∷ lines) d (suc j) h = let w = entries_place table t (suc row) lines d j (omega arith) in (w.0, omega (arith, w.1))

-- a place in two lists, one after the other
second : {A : Type 0} (l m : List A) (d : A) (j : ℕ) → length l ≤ j → get_or (l ++ m) j d ≡ get_or m (j - length l) d
second l m d j h = let e : j ≡ length l + (j - length l) = omega arith in ap (λ (k : ℕ). get_or (l ++ m) k d) e ∙ get_or-append-add l m (j - length l) d

-- the tables of later rows are no lower
from_above : (n : ℕ) (tables : List Table) (texts : List (List ℕ)) (d : Entry) (j : ℕ) → j < length (entries_from n tables texts) → n ≤ (get_or
    (entries_from n tables texts) j d).table
unfolding entries_from
from_above n [] texts d j h = absurd (omega arith)
from_above n (table ∷ tables) [] d j h = absurd (omega arith)
from_above n (table ∷ tables) (text ∷ texts) d j h =
    bool_cases (ltb j (length l))
    (λ q. let b = ltb-true j (length l) q in
    let e = ap (λ (e : Entry). e.table) (get_or-append l m d j b) in
    let w = entries_place table n 1 (lines_of text) d j (omega (arith, length_entries table n 1 (lines_of text))) in omega (arith, w.0))
    (λ q. let b = ltb-false j (length l) q in
    let e = ap (λ (e : Entry). e.table) (second l m d j b) in
    let w = from_above (suc n) tables texts d (j - length l) (omega (arith, length-append l m)) in omega arith)
  where
    l : List Entry
    l = entries_of table n 1 (lines_of text)

    m : List Entry
    m = entries_from (suc n) tables texts

-- no two rows have one table and number
from_apart : (n : ℕ) (tables : List Table) (texts : List (List ℕ)) (d : Entry) (i j : ℕ) → i < j → j < length (entries_from n tables texts)
    → Differ (get_or (entries_from n tables texts) i d) (get_or (entries_from n tables texts) j d)
unfolding entries_from
from_apart n [] texts d i j p h = absurd (omega arith)
from_apart n (table ∷ tables) [] d i j p h = absurd (omega arith)
from_apart n (table ∷ tables) (text ∷ texts) d i j p h =
    bool_cases (ltb j (length l))
    (λ q. let b = ltb-true j (length l) q in
    rw (get_or-append l m d i (omega arith), get_or-append l m d j b)
    (λ s r. omega (arith, r, (own i (omega arith)).1, (own j b).1)))
    (λ q. let b = ltb-false j (length l) q in
    let k : j - length l < length m = omega (arith, length-append l m) in
    bool_cases (ltb i (length l))
    (λ x. let a = ltb-true i (length l) x in
    rw (get_or-append l m d i a, second l m d j b)
    (λ s r. omega (arith, s, (own i a).0, from_above (suc n) tables texts d (j - length l) k)))
    (λ x. let a = ltb-false i (length l) x in
    rw (second l m d i a, second l m d j b) (from_apart (suc n) tables texts d (i - length l) (j - length l) (omega arith) k)))
  where
    l : List Entry
    l = entries_of table n 1 (lines_of text)

    m : List Entry
    m = entries_from (suc n) tables texts

    own : (k : ℕ) → k < length l → ((get_or l k d).table ≡ n) × ((get_or l k d).row ≡ 1 + k)
    own k b = entries_place table n 1 (lines_of text) d k (omega (arith, length_entries table n 1 (lines_of text)))

differ_twin : (e o : Entry) → Differ e o → twin e o ≡ false
unfolding twin
differ_twin e o h =
    bool_cases (twin e o)
    (λ t. absurd (h (eqb-true e.table o.table (and_left _ _ t)) (eqb-true e.row o.row (and_right (eqb e.table o.table) _ t))))
    (λ t. t)

twin_self : (e : Entry) → twin e e ≡ true
unfolding twin
twin_self e = rw (eq-eqb e.table e.table refl, eq-eqb e.row e.row refl)

-- ---- what a row holds

pid_apart : (v : Valid) (r : PidRow) → AtMostTwo (pid_keys v r)
unfolding pid_keys same_key key_words same_bytes
pid_apart Yes r = two_keys refl
pid_apart No r = zero_keys

keys_apart : (t : Table) (line : List ℕ) → AtMostTwo (facts_of t line).keys
unfolding facts_of pid_facts pic_facts plf_facts pcf_facts caf_facts cap_facts txf_facts txp_facts ocf_facts ocp_facts mcf_facts
keys_apart Pid line = pid_apart (pid_row line).valid (pid_row line)
keys_apart Pic line = one_key
keys_apart Plf line = one_key
keys_apart Pcf line = one_key
keys_apart Caf line = one_key
keys_apart Cap line = one_key
keys_apart Txf line = one_key
keys_apart Txp line = one_key
keys_apart Ocf line = one_key
keys_apart Ocp line = one_key
keys_apart Mcf line = one_key

groups_single : (t : Table) (line : List ℕ) → AtMostOne (facts_of t line).groups
unfolding facts_of pid_facts pic_facts plf_facts pcf_facts caf_facts cap_facts txf_facts txp_facts ocf_facts ocp_facts mcf_facts
groups_single Pid line = no_group
groups_single Pic line = no_group
groups_single Plf line = no_group
groups_single Pcf line = no_group
groups_single Caf line = no_group
groups_single Cap line = one_group
groups_single Txf line = no_group
groups_single Txp line = one_group
groups_single Ocf line = no_group
groups_single Ocp line = one_group
groups_single Mcf line = no_group

-- a row that isn't well-formed says nothing
formed_part : {A : Type 0} (P : List A → Type 0) (part : Facts → List A) (fs : Facts) (v : ℕ) (z : Bool) → P (part fs) → P (part (facts_in (bad v))) → P
    (part (facts_in (cond z (fine fs) (bad v))))
formed_part P part fs v true a b = a
formed_part P part fs v false a b = b

entry_apart : (t : Table) (u r : ℕ) (line : Line) → AtMostTwo (facts (entry t u r line)).keys
unfolding reading_of
entry_apart t u r line = formed_part AtMostTwo (λ f. f.keys) (facts_of t line.bytes) (formed t line) (eqb (formed t line) 0)
    (keys_apart t line.bytes) zero_keys

entry_single : (t : Table) (u r : ℕ) (line : Line) → AtMostOne (facts (entry t u r line)).groups
unfolding reading_of
entry_single t u r line = formed_part AtMostOne (λ f. f.groups) (facts_of t line.bytes) (formed t line) (eqb (formed t line) 0)
    (groups_single t line.bytes) no_group

module _ (texts : List (List ℕ)) where
  abbrev rows : List Entry
  rows = all_rows texts

  row_is : (i : ℕ) → i < length rows → kept_entry rows i ≡ entry_at texts (kept_entry rows i).table (kept_entry rows i).row
  row_is i p = (row_of texts (kept_entry rows i) (at_mem rows i no_entry p)).1

  places : (i j : ℕ) → i < length rows → j < length rows → Dec (i ≡ j) → twin (kept_entry rows i) (kept_entry rows j) ≡ eqb i j
  unfolding all_rows
  places i j p q (yes e) = rw (e, eq-eqb j j refl) (twin_self (kept_entry rows j))
  places i j p q (no z) =
      bool_cases (ltb i j)
      (λ b. differ_twin (kept_entry rows i) (kept_entry rows j) (from_apart 0 _ texts no_entry i j (ltb-true i j b) q) ∙ sym (ne_eqb i j z))
      (λ b. let h = ltb-false i j b in
      differ_twin (kept_entry rows i) (kept_entry rows j) (λ s r. from_apart 0 _ texts no_entry j i (omega (arith, z)) p (sym s) (sym r)) ∙ sym (ne_eqb i j z))

  -- the rows of any tables are such rows
  pub table_rows : ToldApart rows
  unfolding entry_at
  table_rows =
      record {
        places = λ i j p q. places i j p q (ℕ_discrete i j);
        apart = λ i p. subst (λ (e : Entry). AtMostTwo (facts e).keys) (sym (row_is i p)) (entry_apart _ 0 0 _);
        single = λ i p. subst (λ (e : Entry). AtMostOne (facts e).groups) (sym (row_is i p)) (entry_single _ 0 0 _);
      }
