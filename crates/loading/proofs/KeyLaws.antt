-- The good rows that hold a key, or are counted in a group, are the marked ones that have its id.
use mathlib.Core.Path.{◌≡◌, ap, sym, subst, ◌∙◌}
use mathlib.Core.Bool.{true, false, ◌&&◌, ◌||◌, and-false, and_comm}
use mathlib.Core.List.{List, map, Memᴰ}
use Prim.Native.Nat.{ℕ, ◌<◌}
use lib.Dec.{eqb}
use lib.ListN.{length, get_or}
use borrow.Author.Tests.{eq-eqb}
use Rattle.laws.specs.Lists.{any}
use Rattle.laws.specs.Prefix.{flag}
use Rattle.laws.proofs.Cases.{bool_cases, false_of}
use Rattle.laws.proofs.Lists.{map_at}
use Rattle.laws.proofs.Tests.{any_witness}
use Rattle.symbols.specs.declared.Symbol.{Symbol}
use Rattle.symbols.specs.Arrays.{symbols}
use Rattle.passes.specs.Marked.{has_id}
use Rattle.verdicts.specs.Key.{Key, same_key}
use Rattle.verdicts.specs.Entries.{Entry, own, facts, all_rows}
use Rattle.verdicts.specs.Steps.{holds, belongs}
use Rattle.verdicts.proofs.KeyLaws.{same_key_is}
use Rattle.meaning.specs.Kept.{key_id, Known, AllKnown, more, no_entry, kept_entry, Kept}
use Rattle.meaning.proofs.TestLaws.{flag_is}
use Rattle.meaning.proofs.KeyLaws.{belongs_id}
use Rattle.meaning.proofs.ShareLaws as share
use Rattle.kept.specs.Stored.{key1_column, key2_column, group_column}
use Rattle.judged.specs.Passes.{column_of}
use Rattle.judged.proofs.Held.{coding, Held}
use Rattle.judged.proofs.KeptLaws.{kept}
use Rattle.loading.proofs.GoodLaws.{good_at, good_own}

module _ (ls : List Symbol) where
  known_of : {ks : List Key} → AllKnown coding ls ks → {k : Key} → Memᴰ k ks → Known coding ls k
  known_of Rattle.meaning.specs.Kept.none {k = k} x3 = elim x3 [ ]
  known_of (more g w) (Memᴰ.head e) = subst (Known coding ls) (sym e) g
  known_of (more g w) (Memᴰ.tail m) = known_of w m

  -- a key without id is none of those that have one
  none_same : (k : Key) → (Known coding ls k → ⊥) → (ks : List Key) → AllKnown coding ls ks → any (same_key k) ks ≡ false
  none_same k n ks w =
      false_of (any (same_key k) ks)
      (λ e. let a = any_witness (same_key k) ks e in n (subst (Known coding ls) (sym (same_key_is k a.0 a.2)) (known_of w a.1)))

module _ (texts : List (List ℕ)) {words links : List ℕ} {count : ℕ} {halves bytes : List ℕ} (h : Held (all_rows texts) words links count halves bytes) where
  abbrev all : List Entry
  all = all_rows texts

  abbrev ls : List Symbol
  ls = symbols words count

  abbrev key1 : List ℕ
  key1 = column_of halves key1_column

  abbrev key2 : List ℕ
  key2 = column_of halves key2_column

  abbrev group : List ℕ
  group = column_of halves group_column

  -- by row whether it is well-formed
  abbrev formed : List ℕ
  formed = map (λ e. flag (eqb (own e.reading) 0)) (all_rows texts)

  formed_at : (i : ℕ) → i < length all → get_or formed i 0 ≡ flag (eqb (own (kept_entry all i).reading) 0)
  formed_at i p = map_at (λ (e : Entry). flag (eqb (own e.reading) 0)) all i no_entry 0 p

  rows_kept : Kept coding ls all formed key1 key2 group
  rows_kept = kept all words links count halves bytes h formed formed_at

  module _ (k : Key) (n : Known coding ls k → ⊥) (i : ℕ) (p : i < length (all_rows texts)) where
    pub none_holds : holds (kept_entry (all_rows texts) i) k ≡ false
    unfolding holds
    none_holds = none_same ls k n (facts (kept_entry all i)).keys (rows_kept.row i p).known

    pub none_belongs : belongs (kept_entry (all_rows texts) i) k ≡ false
    unfolding belongs
    none_belongs = none_same ls k n (facts (kept_entry all i)).groups (rows_kept.row i p).grouped

  module _ (marks : List ℕ) (marked : (i : ℕ) → i < length (all_rows texts) → get_or marks i 0 ≡ flag (good_at texts i)) (k : Key) (q : Known coding ls k)
      (i : ℕ) (p : i < length (all_rows texts)) where
    abbrev id : ℕ
    id = key_id coding ls k

    -- a row's mark
    mark_is : eqb (get_or marks i 0) 1 ≡ good_at texts i
    mark_is = ap (λ (m : ℕ). eqb m 1) (marked i p) ∙ flag_is (good_at texts i)

    -- a good row is well-formed
    formed_good : good_at texts i ≡ true → eqb (get_or formed i 0) 1 ≡ true
    formed_good g = ap (λ (m : ℕ). eqb m 1) (formed_at i p) ∙ flag_is (eqb (own (kept_entry all i).reading) 0) ∙ eq-eqb _ 0 (good_own texts i p g)

    pub good_holds : (good_at texts i && holds (kept_entry (all_rows texts) i) k) ≡ (has_id marks key1 id i || has_id marks key2 id i)
    unfolding has_id
    good_holds =
        bool_cases (good_at texts i)
        (λ g. rw (mark_is, g) (rw (formed_good g) at (share.held coding ls all formed key1 key2 group rows_kept k q i p)))
        (λ g. rw (mark_is, g, and-false (eqb (get_or key1 i 0) id), and-false (eqb (get_or key2 i 0) id)))

    pub good_belongs : (good_at texts i && belongs (kept_entry (all_rows texts) i) k) ≡ has_id marks group id i
    unfolding has_id
    good_belongs =
        let b = belongs_id coding ls k q formed key1 key2 group i (kept_entry all i) (rows_kept.row i p) (rows_kept.tables.single i p) in
        rw (mark_is, b) (and_comm (good_at texts i) _)
