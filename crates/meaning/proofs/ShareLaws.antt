-- Reason 9 by ids: a row shares a key just where more than one row holds one of its ids.
use mathlib.Core.Path.{◌≡◌, refl, ap, ap₂, sym, ◌∙◌}
use mathlib.Core.Bool.{Bool, true, false, not, ◌&&◌, ◌||◌, and-false, or-false}
use mathlib.Core.List.{List, [], ◌∷◌}
use Prim.Native.Nat.{ℕ, ◌<◌}
use native.Mathlib.Omega.{arith}
use lib.Dec.{eqb, ltb}
use lib.ListN.{length, get_or, drop, get_or-eq_default}
use Rattle.laws.specs.Lists.{any}
use Rattle.laws.specs.Prefix.{count_with, any_with, flag}
use Rattle.laws.proofs.Cases.{or_right}
use Rattle.laws.proofs.Tests.{some_kept}
use Rattle.laws.proofs.Count.{count_same, count_or, any_with_same, any_or, any_none, others_count}
use Rattle.laws.proofs.Places.{any_places}
use Rattle.symbols.specs.declared.Symbol.{Symbol}
use Rattle.symbols.specs.Symbols.{no_id}
use Rattle.symbols.proofs.PlaceLaws.{id_below}
use Rattle.passes.specs.Marked.{has_id, under}
use Rattle.passes.specs.Sound.{sound_of, sound_at}
use Rattle.verdicts.specs.Key.{Key, same_key}
use Rattle.verdicts.specs.Entries.{Entry, own, facts}
use Rattle.verdicts.specs.Steps.{twin, holds, rivals}
use Rattle.verdicts.specs.Verdicts.{shared, sound}
use Rattle.verdicts.proofs.KeyLaws.{same_key_self}
use Rattle.meaning.specs.Kept.{Coding, key_id, Known, first_id, AllKnown, none, more, AtMostTwo, zero_keys, one_key, two_keys, no_entry, kept_entry, Kept}
use Rattle.meaning.specs.Kept.{holders_of, ById}
use Rattle.meaning.proofs.TestLaws.{spread, flag_is, most_one, not_or}
use Rattle.meaning.proofs.KeyLaws.{holds_id, holds_once}

module _ (c : Coding) (symbols : List Symbol) (rows : List Entry) (formed key1 key2 group : List ℕ) (kept : Kept c symbols rows formed key1 key2 group) where
  abbrev n : ℕ
  n = length rows

  module _ (k : Key) (h : Known c symbols k) where
    abbrev id : ℕ
    id = key_id c symbols k

    pub held : (j : ℕ) → j < n → holds (kept_entry rows j) k ≡ (has_id formed key1 id j || has_id formed key2 id j)
    held j p = holds_id c symbols k h formed key1 key2 group j (kept_entry rows j) (kept.row j p) (kept.tables.apart j p)

    -- the counters count the rows that hold the key
    holders_count : count_with (λ j. holds (kept_entry rows j) k) n ≡ holders_of formed key1 key2 n id
    unfolding holders_of
    holders_count =
        count_same (λ j. holds (kept_entry rows j) k) (λ j. has_id formed key1 id j || has_id formed key2 id j) n held
        ∙ count_or (has_id formed key1 id) (has_id formed key2 id) n
        (λ j p. holds_once c symbols k h formed key1 key2 group j (kept_entry rows j) (kept.row j p) (kept.tables.apart j p))

    -- another row than i, which holds the key, holds it just where more than one row does
    pub others_hold : (i : ℕ) → i < n → holds (kept_entry rows i) k ≡ true → any_with (λ j. not (eqb i j) && holds (kept_entry rows j) k) n ≡ ltb 1
        (holders_of formed key1 key2 n id)
    others_hold i p e = others_count (λ j. holds (kept_entry rows j) k) i e n p ∙ ap (ltb 1) holders_count

  module _ (holders : List ℕ) (hs : ById symbols (holders_of formed key1 key2 n) holders) where
    -- the holders of the key whose id a row has
    pub under_key : (ids : List ℕ) (i : ℕ) (k : Key) → Known c symbols k → get_or ids i 0 ≡ key_id c symbols k
        → under holders ids i ≡ holders_of formed key1 key2 n (key_id c symbols k)
    under_key ids i k h e =
        ap (λ (z : ℕ). get_or holders z 0) e
        ∙ hs.at (key_id c symbols k) (omega (arith, id_below (c.symbol_of k) symbols h.numbered, hs.wide))

    under_none : (ids : List ℕ) (i : ℕ) → get_or ids i 0 ≡ no_id → ltb 1 (under holders ids i) ≡ false
    under_none ids i e =
        ap (λ (z : ℕ). ltb 1 (get_or holders z 0)) e
        ∙ ap (ltb 1) (get_or-eq_default holders 0 {n = no_id} hs.narrow)

    module _ (i : ℕ) (p : i < n) where
      own_key : (k : Key) → any (same_key k) (facts (kept_entry rows i)).keys ≡ true → holds (kept_entry rows i) k ≡ true
      unfolding holds
      own_key k e = e

      by-keys :
          (ks : List Key) → (facts (kept_entry rows i)).keys ≡ ks → AtMostTwo ks → AllKnown c symbols ks → get_or key1 i 0 ≡ first_id c symbols ks
          → get_or key2 i 0 ≡ first_id c symbols (drop 1 ks)
          → any_with (λ j. not (eqb i j) && any (holds (kept_entry rows j)) ks) n ≡ (ltb 1 (under holders key1 i) || ltb 1 (under holders key2 i))
      by-keys [] q zero_keys none a b =
          any_none n (λ j. not (eqb i j) && false) (λ j r. and-false (not (eqb i j))) ∙ sym (rw (under_none key1 i a, under_none key2 i b))
      by-keys (k ∷ []) q one_key (more h none) a b =
          any_with_same (λ j. not (eqb i j) && (holds (kept_entry rows j) k || false)) (λ j. not (eqb i j) && holds (kept_entry rows j) k) n
          (λ j r. ap (λ (t : Bool). not (eqb i j) && t) (or-false (holds (kept_entry rows j) k)))
          ∙ others_hold k h i p (own_key k (rw (q, same_key_self k)))
          ∙ sym (rw (under_none key2 i b, under_key key1 i k h a) (or-false (ltb 1 (holders_of formed key1 key2 n (key_id c symbols k)))))
      by-keys (k ∷ (l ∷ (_ ∷ _))) q x13 _ a b = elim x13 [ ]
      by-keys (k ∷ l ∷ []) q (two_keys z) (more h (more g none)) a b =
          any_with_same (λ j. not (eqb i j) && (holds (kept_entry rows j) k || (holds (kept_entry rows j) l || false)))
          (λ j. (not (eqb i j) && holds (kept_entry rows j) k) || (not (eqb i j) && holds (kept_entry rows j) l)) n
          (λ j r. spread (not (eqb i j)) (holds (kept_entry rows j) k) (holds (kept_entry rows j) l))
          ∙ any_or (λ j. not (eqb i j) && holds (kept_entry rows j) k) (λ j. not (eqb i j) && holds (kept_entry rows j) l) n
          ∙ ap₂ ◌||◌
          (others_hold k h i p (own_key k (rw (q, same_key_self k))) ∙ ap (ltb 1) (sym (under_key key1 i k h a)))
          (others_hold l g i p (own_key l (rw (q, same_key_self l) (or_right (same_key l k) refl))) ∙ ap (ltb 1) (sym (under_key key2 i l g b)))

      -- THE LAW OF REASON 9
      pub shared_law : shared rows (kept_entry rows i) ≡ (ltb 1 (under holders key1 i) || ltb 1 (under holders key2 i))
      unfolding shared rivals
      shared_law =
          let e = kept_entry rows i in
          let w = kept.row i p in
          sym (some_kept (rivals e) rows)
          ∙ any_places no_entry (rivals e) rows
          ∙ any_with_same (λ j. not (twin e (kept_entry rows j)) && any (holds (kept_entry rows j)) (facts e).keys)
          (λ j. not (eqb i j) && any (holds (kept_entry rows j)) (facts e).keys) n
          (λ j q. ap (λ (t : Bool). not t && any (holds (kept_entry rows j)) (facts e).keys) (kept.tables.places i j p q))
          ∙ by-keys (facts e).keys refl (kept.tables.apart i p) w.known w.key1 w.key2

      -- a row's mark says whether it is sound
      pub sound_law : sound_at formed key1 key2 holders i ≡ flag (sound rows (kept_entry rows i))
      unfolding sound sound_at sound_of
      sound_law =
          let a = under holders key1 i in
          let b = under holders key2 i in
          sym (ap flag
          (ap₂ ◌&&◌
          (sym (ap (λ (f : ℕ). eqb f 1) (kept.row i p).formed ∙ flag_is (eqb (own (kept_entry rows i).reading) 0)))
          (ap not shared_law ∙ not_or (ltb 1 a) (ltb 1 b) ∙ ap₂ ◌&&◌ (sym (most_one a)) (sym (most_one b)))))
