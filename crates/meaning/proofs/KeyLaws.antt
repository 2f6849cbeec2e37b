-- Rows hold a key, and belong to a group, just where they have its id.
use mathlib.Core.Path.{◌≡◌, refl, ap, ap₂, sym, ◌∙◌}
use mathlib.Core.Bool.{Bool, true, false, ◌&&◌, ◌||◌, and-false, or-false}
use mathlib.Core.List.{List, [], ◌∷◌}
use Prim.Native.Nat.{ℕ}
use native.Mathlib.Omega.{arith}
use lib.Dec.{eqb}
use lib.ListN.{get_or, drop}
use borrow.Author.Tests.{eqb-true, eq-eqb, ne_eqb}
use Rattle.laws.specs.Lists.{any}
use Rattle.laws.specs.Prefix.{flag}
use Rattle.laws.proofs.Cases.{and_left, and_right, and_both, false≢true, false_of}
use Rattle.symbols.specs.declared.Symbol.{Symbol}
use Rattle.symbols.specs.Symbols.{same_symbol, no_id, id_of}
use Rattle.symbols.proofs.SameLaws.{same_is, same_self}
use Rattle.symbols.proofs.PlaceLaws.{ids_tell}
use Rattle.passes.specs.Marked.{has_id}
use Rattle.verdicts.specs.Key.{Key, same_key}
use Rattle.verdicts.specs.Entries.{Entry, RowReading, bad, fine, own, facts_in, facts}
use Rattle.verdicts.specs.Steps.{holds, belongs}
use Rattle.verdicts.proofs.KeyLaws.{same_key_is, same_key_self}
use Rattle.meaning.specs.Kept.{Coding, key_id, Known, first_id, AllKnown, none, more, AtMostTwo, zero_keys, one_key, two_keys, AtMostOne, no_group}
use Rattle.meaning.specs.Kept.{one_group, KeptRow}
use Rattle.meaning.proofs.TestLaws.{same_test}

-- k is the first of these keys
abbrev pub first_is : Key → List Key → Bool
first_is k [] = false
first_is k (l ∷ ls) = same_key k l

module _ (k : Key) where
  one_of_two : (ks : List Key) → AtMostTwo ks → any (same_key k) ks ≡ (first_is k ks || first_is k (drop 1 ks))
  one_of_two [] zero_keys = refl
  one_of_two (l ∷ []) one_key = refl
  one_of_two (l ∷ (m ∷ (_ ∷ _))) x7 = elim x7 [ ]
  one_of_two (l ∷ m ∷ []) (two_keys z) = ap (λ (t : Bool). same_key k l || t) (or-false (same_key k m))

  not_both : (ks : List Key) → AtMostTwo ks → (first_is k ks && first_is k (drop 1 ks)) ≡ false
  not_both [] zero_keys = refl
  not_both (l ∷ []) one_key = and-false (same_key k l)
  not_both (l ∷ (m ∷ (_ ∷ _))) x7 = elim x7 [ ]
  not_both (l ∷ m ∷ []) (two_keys z) =
      false_of (same_key k l && same_key k m)
      (λ e. let p = same_key_is k l (and_left (same_key k l) _ e) in
      let q = same_key_is k m (and_right (same_key k l) _ e) in
      false≢true (sym z ∙ ap₂ same_key (sym p) (sym q) ∙ same_key_self k))

  the_one : (ks : List Key) → AtMostOne ks → any (same_key k) ks ≡ first_is k ks
  the_one [] no_group = refl
  the_one (l ∷ (_ ∷ _)) x5 = elim x5 [ ]
  the_one (l ∷ []) one_group = or-false (same_key k l)

-- a row that isn't well-formed says nothing
keyed : (k : Key) (r : RowReading) → first_is k (facts_in r).keys ≡ true → own r ≡ 0
keyed k (bad v) q = absurd (false≢true q)
keyed k (fine f) q = refl

keyed₂ : (k : Key) (r : RowReading) → first_is k (drop 1 (facts_in r).keys) ≡ true → own r ≡ 0
keyed₂ k (bad v) q = absurd (false≢true q)
keyed₂ k (fine f) q = refl

module _ (c : Coding) (symbols : List Symbol) (k : Key) (h : Known c symbols k) where
  abbrev id : ℕ
  id = key_id c symbols k

  -- THE LAW OF KEYS: a key is the same as one that has an id just where the ids are the same
  pub same_id : (l : Key) → c.Fit l → same_key k l ≡ eqb (key_id c symbols l) id
  same_id l f =
      c.exact k l h.fits f
      ∙ same_test (same_symbol (c.symbol_of k) (c.symbol_of l)) (eqb (key_id c symbols l) id)
      (λ e. eq-eqb (key_id c symbols l) id (ap (λ (s : Symbol). id_of s symbols) (sym (same_is (c.symbol_of k) (c.symbol_of l) e))))
      (λ e. ap (same_symbol (c.symbol_of k)) (sym (ids_tell (c.symbol_of k) (c.symbol_of l) symbols h.numbered (sym (eqb-true (key_id c symbols l) id e))))
      ∙ same_self (c.symbol_of k))

  -- what is kept for the first of some keys is the id of k just where that is k
  pub id_first : (ks : List Key) → AllKnown c symbols ks → (x : ℕ) → x ≡ first_id c symbols ks → eqb x id ≡ first_is k ks
  id_first [] none x e = rw e (ne_eqb no_id id (λ q. omega (arith, h.numbered)))
  id_first (l ∷ ls) (more g w) x e = rw e (sym (same_id l g.fits))

  rest_known : (ks : List Key) → AllKnown c symbols ks → AllKnown c symbols (drop 1 ks)
  rest_known [] none = none
  rest_known (l ∷ ls) (more g w) = w

  -- a key of a row that has one, so that the row's mark needn't be looked at
  marked : (f v : ℕ) (s : Bool) → f ≡ flag (eqb v 0) → (s ≡ true → v ≡ 0) → (s && eqb f 1) ≡ s
  marked f v s p n =
      same_test (s && eqb f 1) s (λ q. and_left s (eqb f 1) q)
      (λ q. and_both q (eq-eqb f 1 (p ∙ ap (λ (u : ℕ). flag (eqb u 0)) (n q))))

  module _ (formed key1 key2 group : List ℕ) (i : ℕ) (e : Entry)
      (w : KeptRow c symbols e (get_or formed i 0) (get_or key1 i 0) (get_or key2 i 0) (get_or group i 0)) where
    first_has : has_id formed key1 id i ≡ first_is k (facts e).keys
    unfolding has_id
    first_has =
        rw (id_first (facts e).keys w.known (get_or key1 i 0) w.key1)
        (marked (get_or formed i 0) (own e.reading) (first_is k (facts e).keys) w.formed (keyed k e.reading))

    second_has : has_id formed key2 id i ≡ first_is k (drop 1 (facts e).keys)
    unfolding has_id
    second_has =
        rw (id_first (drop 1 (facts e).keys) (rest_known (facts e).keys w.known) (get_or key2 i 0) w.key2)
        (marked (get_or formed i 0) (own e.reading) (first_is k (drop 1 (facts e).keys)) w.formed (keyed₂ k e.reading))

    -- THE LAW OF HOLDING: a row holds a key just where it has its id
    pub holds_id : AtMostTwo (facts e).keys → holds e k ≡ (has_id formed key1 id i || has_id formed key2 id i)
    unfolding holds
    holds_id a = one_of_two k (facts e).keys a ∙ ap₂ ◌||◌ (sym first_has) (sym second_has)

    -- once
    pub holds_once : AtMostTwo (facts e).keys → (has_id formed key1 id i && has_id formed key2 id i) ≡ false
    holds_once a = ap₂ ◌&&◌ first_has second_has ∙ not_both k (facts e).keys a

    pub belongs_id : AtMostOne (facts e).groups → belongs e k ≡ eqb (get_or group i 0) id
    unfolding belongs
    belongs_id s = the_one k (facts e).groups s ∙ sym (id_first (facts e).groups w.grouped (get_or group i 0) w.group)
