-- Reasons 11 and 12 by the row that is found: whether a name is met, and the next row of a VALID chain.
use mathlib.Core.Path.{◌≡◌, refl, ap, sym, ◌∙◌}
use mathlib.Core.Bool.{Bool, true, false, not, cond, ◌&&◌}
use mathlib.Core.List.{List, [], ◌∷◌, map}
use Prim.Native.Nat.{ℕ, zero, suc, ◌-◌, ◌<◌}
use native.Mathlib.Omega.{arith}
use lib.Dec.{eqb, ltb}
use lib.ListN.{length}
use borrow.Author.Tests.{lt-ltb, not-true}
use Rattle.laws.specs.Lists.{any, keep}
use Rattle.laws.specs.Prefix.{any_with, all_from}
use Rattle.laws.proofs.Cases.{and_left, and_right, and_both, false≢true, false_of}
use Rattle.laws.proofs.Tests.{any_keep}
use Rattle.laws.proofs.Count.{any_none, any_one, any_which}
use Rattle.laws.proofs.Places.{any_places, keep_all, all_none, all_one}
use Rattle.verdicts.specs.Key.{Key}
use Rattle.verdicts.specs.Facts.{Naming}
use Rattle.verdicts.specs.Entries.{Entry, own}
use Rattle.verdicts.specs.Steps.{holds}
use Rattle.verdicts.specs.Verdicts.{shared, sound, follows, next, of_kind, asked}
use Rattle.meaning.specs.Kept.{no_entry, kept_entry}
use Rattle.meaning.specs.Found.{Finds}
use Rattle.meaning.proofs.TestLaws.{same_test}

unshared : (rows : List Entry) (o : Entry) → sound rows o ≡ true → shared rows o ≡ false
unfolding sound
unshared rows o e = not-true (shared rows o) (and_right (eqb (own o.reading) 0) (not (shared rows o)) e)

module _ (rows : List Entry) (k : Key) where
  abbrev n : ℕ
  n = length rows

  -- the row found, where there is one
  abbrev pub found_row : ℕ → Entry
  found_row found = kept_entry rows (found - 1)

  -- of the rows that hold the key, one that passes a test is good just where the row found does and is;
  -- good rows are sound
  module _ (test good : Entry → Bool) (lone : (o : Entry) → good o ≡ true → sound rows o ≡ true) where
    abbrev f : Entry → Bool
    f o = (holds o k && test o) && good o

    by_places : any good (keep (λ o. holds o k && test o) rows) ≡ any_with (λ i. f (kept_entry rows i)) n
    by_places = any_keep (λ o. holds o k && test o) good rows ∙ any_places no_entry f rows

    pub held_any : (found : ℕ) → Finds rows k found → any good (keep (λ o. holds o k && test o) rows) ≡
        (ltb 0 found && (test (found_row found) && good (found_row found)))
    held_any zero w = by_places ∙ any_none n (λ i. f (kept_entry rows i)) (λ i p. rw (w.none refl i p))
    held_any (suc j) w =
        let e : suc j - 1 ≡ j = omega arith in
        rw (e, lt-ltb 0 (suc j) (omega arith)) (by_places ∙ same_test _ _ (λ q. to (any_which n (λ i. f (kept_entry rows i)) q)) back)
      where
        here : (j < n) × (holds (kept_entry rows j) k ≡ true)
        here = w.some j (omega arith)

        to : (i : ℕ) × (i < n) × (f (kept_entry rows i) ≡ true) → (test (kept_entry rows j) && good (kept_entry rows j)) ≡ true
        to x =
            let i = x.0 in
            let u : (holds (kept_entry rows i) k && test (kept_entry rows i)) ≡ true = and_left _ _ x.2 in
            let g : good (kept_entry rows i) ≡ true = and_right (holds (kept_entry rows i) k && test (kept_entry rows i)) _ x.2 in
            let s = w.only i x.1 (and_left _ _ u) (unshared rows (kept_entry rows i) (lone (kept_entry rows i) g)) in
            let z : j ≡ i = omega arith in
            rw z (and_both (and_right (holds (kept_entry rows i) k) _ u) g)

        back : (test (kept_entry rows j) && good (kept_entry rows j)) ≡ true → any_with (λ i. f (kept_entry rows i)) n ≡ true
        back q =
            any_one n j (λ i. f (kept_entry rows i)) here.0
            (and_both (and_both here.1 (and_left _ _ q)) (and_right (test (kept_entry rows j)) _ q))

  -- THE LAW OF CHAINS: the next row, of a row that follows the key alone, is the row found where that is sound
  pub next_law : (e : Entry) → ((o : Entry) → follows e o ≡ holds o k) → (found : ℕ) → Finds rows k found
      → next rows e ≡ cond (ltb 0 found && sound rows (found_row found)) (found_row found ∷ []) []
  unfolding next
  next_law e is zero w =
      keep_all no_entry (λ o. follows e o && sound rows o) rows
      ∙ ap (map (kept_entry rows)) (all_none _ 0 n (λ i p q. rw (is (kept_entry rows i), w.none refl i (omega arith))))
  next_law e is (suc j) w =
      let z : suc j - 1 ≡ j = omega arith in
      rw (z, lt-ltb 0 (suc j) (omega arith)) (keep_all no_entry (λ o. follows e o && sound rows o) rows ∙ go (sound rows (kept_entry rows j)) refl)
    where
      here : (j < n) × (holds (kept_entry rows j) k ≡ true)
      here = w.some j (omega arith)

      passes : ℕ → Bool
      passes i = follows e (kept_entry rows i) && sound rows (kept_entry rows i)

      -- what passes is the row found
      one : (i : ℕ) → i < n → passes i ≡ true → i ≡ j
      one i p q =
          let s : sound rows (kept_entry rows i) ≡ true = and_right (follows e (kept_entry rows i)) _ q in
          let h : holds (kept_entry rows i) k ≡ true = sym (is (kept_entry rows i)) ∙ and_left _ _ q in
          omega (arith, w.only i p h (unshared rows (kept_entry rows i) s))

      go : (t : Bool) → sound rows (kept_entry rows j) ≡ t → map (kept_entry rows) (all_from passes 0 n) ≡ cond t (kept_entry rows j ∷ []) []
      go true s = ap (map (kept_entry rows)) (all_one passes 0 n j (omega arith) (omega (arith, here.0)) (and_both (is (kept_entry rows j) ∙ here.1) s)
          (λ i p q r. one i (omega arith) r))
      go false s =
          ap (map (kept_entry rows))
          (all_none passes 0 n
          (λ i p q. false_of (passes i)
          (λ r. let z = one i (omega arith) r in false≢true (sym s ∙ rw (← z) (and_right (follows e (kept_entry rows i)) _ r)))))

-- THE LAW OF NAMES: a naming is met just where the row found is of the kind asked and good
pub asked_law : (rows : List Entry) (m : Naming) (good : Entry → Bool) → ((o : Entry) → good o ≡ true → sound rows o ≡ true)
    → (found : ℕ) → Finds rows m.key found
    → any good (asked rows m) ≡ (ltb 0 found && (of_kind rows m.kind (kept_entry rows (found - 1)) && good (kept_entry rows (found - 1))))
unfolding asked
asked_law rows m good lone found w = held_any rows m.key (of_kind rows m.kind) good lone found w
