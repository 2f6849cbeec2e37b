-- The row that a key finds by its id.
use mathlib.Core.Path.{◌≡◌, refl, ap, sym, subst, ◌∙◌}
use mathlib.Core.Bool.{true, false, ◌||◌}
use mathlib.Core.List.{List, [], ◌∷◌, Memᴰ}
use Prim.Native.Nat.{ℕ, zero, suc, ◌+◌, ◌≤◌, ◌<◌}
use native.Mathlib.Omega.{arith}
use lib.Dec.{ltb}
use lib.ListN.{length, get_or, get_or-eq_default}
use borrow.Author.Tests.{eqb-true, ltb-true, ltb-false}
use Rattle.laws.specs.Lists.{any, or_else}
use Rattle.laws.specs.Prefix.{last_with}
use Rattle.laws.proofs.Cases.{bool_cases, or_left, or_right, false≢true, false_of}
use Rattle.laws.proofs.First.{or_else_zero}
use Rattle.laws.proofs.Lists.{at_mem}
use Rattle.laws.proofs.Tests.{any_witness}
use Rattle.laws.proofs.Last.{last_tells}
use Rattle.symbols.specs.declared.Symbol.{Symbol}
use Rattle.symbols.specs.Symbols.{no_id}
use Rattle.symbols.proofs.PlaceLaws.{id_below}
use Rattle.passes.specs.Marked.{has_id, under}
use Rattle.verdicts.specs.Key.{Key, same_key}
use Rattle.verdicts.specs.Entries.{Entry, facts}
use Rattle.verdicts.specs.Steps.{twin, holds}
use Rattle.verdicts.specs.Verdicts.{shared}
use Rattle.verdicts.proofs.KeyLaws.{same_key_is}
use Rattle.verdicts.proofs.SoundLaws.{both_shared}
use Rattle.meaning.specs.Kept.{Coding, key_id, Known, AllKnown, more, no_entry, kept_entry, ToldApart, Kept, holder_of, ById}
use Rattle.meaning.specs.Found.{Finds}
use Rattle.meaning.proofs.ShareLaws.{held}

-- a row that holds a key and shares none is the only one that does
pub only_holder : (rows : List Entry) → ToldApart rows → (k : Key) (i j : ℕ) → i < length rows → j < length rows
    → holds (kept_entry rows i) k ≡ true → holds (kept_entry rows j) k ≡ true → shared rows (kept_entry rows j) ≡ false → j ≡ i
only_holder rows t k i j p q a b s =
    bool_cases (twin (kept_entry rows j) (kept_entry rows i))
    (λ e. eqb-true j i (sym (t.places j i q p) ∙ e))
    (λ e. absurd (false≢true (sym s ∙ both_shared rows (kept_entry rows j) (kept_entry rows i) k (at_mem rows i no_entry p) b a e)))

module _ (c : Coding) (symbols : List Symbol) (rows : List Entry) (formed key1 key2 group : List ℕ) (kept : Kept c symbols rows formed key1 key2 group) where
  abbrev n : ℕ
  n = length rows

  module _ (k : Key) (h : Known c symbols k) where
    abbrev id : ℕ
    id = key_id c symbols k

    abbrev found : ℕ
    found = holder_of formed key1 key2 n id

    holder : (j : ℕ) → j < n → holds (kept_entry rows j) k ≡ (has_id formed key1 id j || has_id formed key2 id j)
    holder = held c symbols rows formed key1 key2 group kept k h

    found_none : found ≡ 0 → (j : ℕ) → j < n → holds (kept_entry rows j) k ≡ false
    unfolding holder_of
    found_none e j p =
        let s = or_else_zero (last_with (has_id formed key2 id) n) (last_with (has_id formed key1 id) n) e in
        holder j p ∙ rw (
          (last_tells (has_id formed key1 id) n).none j (omega (arith, s.1)) p,
          (last_tells (has_id formed key2 id) n).none j
              (omega (arith, s.0)) p,
        )

    found_is : (j : ℕ) → found ≡ j + 1 → (j < n) × (holds (kept_entry rows j) k ≡ true)
    unfolding holder_of
    found_is j e = go (last_with (has_id formed key2 id) n) refl e
      where
        go : (a : ℕ) → last_with (has_id formed key2 id) n ≡ a → or_else a (last_with (has_id formed key1 id) n) ≡ j + 1 → (j < n)
            × (holds (kept_entry rows j) k ≡ true)
        go zero p r =
            let w = last_tells (has_id formed key1 id) n in
            let s : j < n = omega (arith, w.within) in
            (s, holder j s ∙ or_left (has_id formed key2 id j) (w.hit j r))
        go (suc a) p r =
            let w = last_tells (has_id formed key2 id) n in
            let s : j < n = omega (arith, w.within) in
            (s, holder j s ∙ or_right (has_id formed key1 id j) (w.hit j (p ∙ r)))

    found_only : (j : ℕ) → j < n → holds (kept_entry rows j) k ≡ true → shared rows (kept_entry rows j) ≡ false → found ≡ j + 1
    found_only j p e s = go found refl
      where
        go : (m : ℕ) → found ≡ m → found ≡ j + 1
        go zero q = absurd (false≢true (sym (found_none q j p) ∙ e))
        go (suc i) q =
            let f = found_is i (omega arith) in
            let z : j ≡ i = only_holder rows kept.tables k i j f.0 p f.1 e s in
            omega arith

    finds : Finds rows k found
    finds = record { none = found_none; some = found_is; only = found_only }

  -- a key that a row holds has an id
  known_of : (ks : List Key) → AllKnown c symbols ks → {k : Key} → Memᴰ k ks → Known c symbols k
  known_of [] _ {k = k} x3 = elim x3 [ ]
  known_of (l ∷ ls) (more g w) (Memᴰ.head e) = subst (Known c symbols) (sym e) g
  known_of (l ∷ ls) (more g w) (Memᴰ.tail m) = known_of ls w m

  nobody : (k : Key) → no_id ≤ key_id c symbols k → (j : ℕ) → j < n → holds (kept_entry rows j) k ≡ false
  unfolding holds
  nobody k h j p =
      false_of (any (same_key k) (facts (kept_entry rows j)).keys)
      (λ e. let w = any_witness (same_key k) (facts (kept_entry rows j)).keys e in
      let g = known_of (facts (kept_entry rows j)).keys (kept.row j p).known w.1 in
      let q : key_id c symbols k ≡ key_id c symbols w.0 = ap (key_id c symbols) (same_key_is k w.0 w.2) in
      omega (arith, g.numbered))

  -- THE LAW OF QUESTIONS: what stands under the id of any key finds its row, also where it has no id
  module _ (holders : List ℕ) (hs : ById symbols (holder_of formed key1 key2 n) holders) where
    pub finds_law : (k : Key) → c.Fit k → Finds rows k (get_or holders (key_id c symbols k) 0)
    finds_law k f =
        bool_cases (ltb (key_id c symbols k) no_id)
        (λ q. let h : Known c symbols k = record { fits = f; numbered = ltb-true (key_id c symbols k) no_id q } in
        let r : get_or holders (key_id c symbols k) 0 ≡ holder_of formed key1 key2 n (key_id c symbols k) =
        hs.at (key_id c symbols k) (omega (arith, id_below (c.symbol_of k) symbols h.numbered, hs.wide)) in
        subst (Finds rows k) (sym r) (finds k h))
        (λ q. let z = ltb-false (key_id c symbols k) no_id q in
        let r : get_or holders (key_id c symbols k) 0 ≡ 0 = get_or-eq_default holders 0 {n = key_id c symbols k} (omega (arith, hs.narrow)) in
        record {
          none = λ e. nobody k z;
          some = λ j e. absurd (omega arith);
          only = λ j p e s. absurd (false≢true (sym (nobody k z j p) ∙ e));
        })

    -- the row that a naming of row i finds
    pub names_law : (names : List ℕ) (i : ℕ) (k : Key) → c.Fit k → get_or names i 0 ≡ key_id c symbols k → Finds rows k (under holders names i)
    names_law names i k f e = rw e (finds_law k f)

    -- a row that names nothing
    pub unnamed_law : (names : List ℕ) (i : ℕ) → get_or names i 0 ≡ no_id → under holders names i ≡ 0
    unnamed_law names i e = rw e (get_or-eq_default holders 0 {n = no_id} hs.narrow)
