-- Reason 12: the next row of a VALID chain, and a chain that returns.
use mathlib.Core.Path.{◌≡◌, refl, ap, sym, ◌∙◌}
use mathlib.Core.Bool.{Bool, true, false, cond, ◌&&◌, ◌||◌}
use mathlib.Core.List.{List, [], ◌∷◌, ◌++◌}
use Prim.Native.Nat.{ℕ, zero, suc, ◌<◌}
use native.Mathlib.Omega.{arith}
use lib.Dec.{eqb}
use lib.ListN.{length, get_or, get_or-eq_default}
use borrow.Author.Tests.{eq-eqb, ne_eqb, eqb-true, eqb-false}
use Rattle.laws.specs.Lists.{any}
use Rattle.laws.specs.Prefix.{flag}
use Rattle.laws.proofs.At.{same_test, keep_none, keep_one}
use Rattle.laws.proofs.Cases.{bool_cases, and_left, and_right, and_both, false≢true}
use Rattle.verdicts.specs.Facts.{Naming}
use Rattle.verdicts.specs.Entries.{Entry, own}
use Rattle.verdicts.specs.Steps.{twin, holds}
use Rattle.verdicts.specs.Verdicts.{sound, follows, next, leads, circle}
use Rattle.manners.specs.Manners.{manners, manner_at}
use Rattle.chain_steps.specs.Chains.{no_row, comes_to}
use Rattle.base_verdicts.specs.Judged.{next_of}
use Rattle.judging.proofs.Resolved.{no_entry, row_at, Answers, Named, absent, present, names_in, Arrays, code1, row1, Resolved, twin_self, sole}

pub flag_one : (b : Bool) → eqb (flag b) 1 ≡ b
flag_one true = refl
flag_one false = refl

-- a sound row is well-formed
pub sound_formed : (rows : List Entry) (e : Entry) → sound rows e ≡ true → own e.reading ≡ 0
unfolding sound
sound_formed rows e t = eqb-true _ _ (and_left _ _ t)

-- what names nothing is of no chain
pub no_code : (c : ℕ) → c ≡ 0 → (manner_at c).chained ≡ false
unfolding manner_at manners
no_code c e = rw e

module _ (rows : List Entry) (w : Arrays) (layer : ℕ → ℕ) (v : Resolved rows w layer) where
  pub mark_is : (j : ℕ) → j < length rows → eqb (get_or w.sound j 0) 1 ≡ sound rows (row_at rows j)
  mark_is j q = ap (λ (x : ℕ). eqb x 1) (v.sounds j q) ∙ flag_one (sound rows (row_at rows j))

  pub no_mark : eqb (get_or w.sound no_row 0) 1 ≡ false
  no_mark = ap (λ (x : ℕ). eqb x 1) (get_or-eq_default w.sound 0 {n = 65535} (omega (arith, v.short)))

  module _ (i : ℕ) (p : i < length rows) (formed : own (row_at rows i).reading ≡ 0) where
    abbrev chain_of : ℕ
    chain_of = next_of w.sound (code1 w i) (row1 w i)

    -- a row is followed by way of its first naming alone
    by_second : (o : Entry) (code found : ℕ) → (manner_at code).chained ≡ false → (x : Named rows code found)
        → any (λ n. holds o n.key && n.chained) (names_in x) ≡ false
    by_second o code found u (absent e) = refl
    by_second o code found u (present n e r) = rw (r.chained, u) (go (holds o n.key))
      where
        go : (b : Bool) → ((b && false) || false) ≡ false
        go true = refl
        go false = refl

    by_first : (o : Entry) (code found : ℕ) (x : Named rows code found) (l : List Naming) → any (λ n. holds o n.key && n.chained) l ≡ false
        → any (λ n. holds o n.key && n.chained) (names_in x ++ l) ≡ any (λ n. holds o n.key && n.chained) (names_in x)
    by_first o code found (absent e) l q = q
    by_first o code found (present n e r) l q = rw q

    follows_one : (o : Entry) → follows (row_at rows i) o ≡ any (λ n. holds o n.key && n.chained) (names_in (v.named i p formed).one)
    unfolding follows
    follows_one o =
        let s = v.named i p formed in
        rw s.are (by_first o _ _ s.one (names_in s.two) (by_second o _ _ s.unchained s.two))

    -- the next row, as the arrays lead to it
    pub data NextIs : Type 0 where
      nothing : chain_of ≡ no_row → next rows (row_at rows i) ≡ [] → NextIs
      row : (j : ℕ) → j < length rows → sound rows (row_at rows j) ≡ true → chain_of ≡ j → next rows (row_at rows i) ≡ row_at rows j ∷ [] → NextIs

    none_next : ((j : ℕ) → j < length rows → follows (row_at rows i) (row_at rows j) ≡ true → sound rows (row_at rows j) ≡ true → ⊥) → next rows
        (row_at rows i) ≡ []
    unfolding next
    none_next h =
        keep_none no_entry (λ o. follows (row_at rows i) o && sound rows o) rows
        (λ j q. bool_cases (follows (row_at rows i) (row_at rows j) && sound rows (row_at rows j))
        (λ t. absurd (h j q (and_left _ _ t) (and_right (follows (row_at rows i) (row_at rows j)) _ t))) (λ t. t))

    unlinked : (manner_at (code1 w i)).chained ≡ false → chain_of ≡ no_row
    unfolding next_of
    unlinked u = rw u

    -- a naming of a chain: what it found is next, where that is sound
    module _ (n : Naming) (r : Answers rows n (code1 w i) (row1 w i)) (chained : (manner_at (code1 w i)).chained ≡ true)
        (is : (o : Entry) → follows (row_at rows i) o ≡ holds o n.key) where
      at : (j : ℕ) → j < length rows → follows (row_at rows i) (row_at rows j) ≡ true → sound rows (row_at rows j) ≡ true → row1 w i ≡ j
      at j q g s = sole rows w layer v n _ _ r j q s (sym (is (row_at rows j)) ∙ g)

      linked_sound : (j : ℕ) → row1 w i ≡ j → j < length rows → sound rows (row_at rows j) ≡ true → holds (row_at rows j) n.key ≡ true → NextIs
      unfolding next_of next
      linked_sound j e q s h =
          row j q s (rw (chained, e, mark_is j q, s))
          (keep_one no_entry (λ o. follows (row_at rows i) o && sound rows o) rows j q (and_both (is (row_at rows j) ∙ h) s)
          (λ k b t. sym (at k b (and_left _ _ t) (and_right (follows (row_at rows i) (row_at rows k)) _ t)) ∙ e))

      linked_unsound : eqb (get_or w.sound (row1 w i) 0) 1 ≡ false
          → ((j : ℕ) → j < length rows → row1 w i ≡ j → sound rows (row_at rows j) ≡ true → ⊥) → NextIs
      unfolding next_of
      linked_unsound m none = nothing (rw (chained, m)) (none_next (λ j q g s. none j q (at j q g s) s))

      linked : NextIs
      linked = go (eqb (row1 w i) no_row) refl
        where
          by : (row1 w i ≡ no_row → ⊥) → (b : Bool) → sound rows (row_at rows (row1 w i)) ≡ b → NextIs
          by some true s = let h = r.there some in linked_sound (row1 w i) refl h.0 s h.1
          by some false s =
              let h = r.there some in
              linked_unsound (mark_is (row1 w i) h.0 ∙ s) (λ j q e t. false≢true (sym s ∙ ap (λ (k : ℕ). sound rows (row_at rows k)) e ∙ t))

          go : (b : Bool) → eqb (row1 w i) no_row ≡ b → NextIs
          go true q =
              let e : row1 w i ≡ no_row = eqb-true _ _ q in
              linked_unsound (ap (λ (k : ℕ). eqb (get_or w.sound k 0) 1) e ∙ no_mark) (λ j b z s. omega (arith, v.few))
          go false q = by (eqb-false _ _ q) (sound rows (row_at rows (row1 w i))) refl

    pub next_is : NextIs
    next_is = go (v.named i p formed).one refl
      where
        or_none : (b : Bool) → ((b && true) || false) ≡ b
        or_none true = refl
        or_none false = refl

        go : (x : Named rows (code1 w i) (row1 w i)) → (v.named i p formed).one ≡ x → NextIs
        go (absent e) q = nothing (unlinked (no_code (code1 w i) e))
            (none_next (λ j b g s. false≢true (sym (follows_one (row_at rows j) ∙ ap
            (λ y. any (λ n. holds (row_at rows j) n.key && n.chained) (names_in y)) q) ∙ g)))
        go (present n e r) q = by (manner_at (code1 w i)).chained refl
          where
            here : (o : Entry) → follows (row_at rows i) o ≡ ((holds o n.key && n.chained) || false)
            here o = follows_one o ∙ ap (λ y. any (λ n. holds o n.key && n.chained) (names_in y)) q

            by : (b : Bool) → (manner_at (code1 w i)).chained ≡ b → NextIs
            by true c = linked n r c (λ o. here o ∙ rw (r.chained, c) (or_none (holds o n.key)))
            by false c = nothing (unlinked c) (none_next (λ j b g s. false≢true
                (sym (here (row_at rows j) ∙ rw (r.chained, c) (never (holds (row_at rows j) n.key))) ∙ g)))
              where
                never : (b : Bool) → ((b && false) || false) ≡ false
                never true = refl
                never false = refl

  -- a chain as the arrays lead it
  module _ (nexts : List ℕ) (are : (i : ℕ) → i < length rows → get_or nexts i no_row ≡ next_of w.sound (code1 w i) (row1 w i)) where
    pub comes_is : (n i z : ℕ) → i < length rows → own (row_at rows i).reading ≡ 0 → z < length rows → leads n rows (row_at rows i)
        (row_at rows z) ≡ comes_to nexts z n i
    unfolding leads comes_to
    comes_is zero i z p e q = refl
    comes_is (suc n) i z p e q = rw (are i p) (go (next_is i p e) (λ j b s. comes_is n j z b (sound_formed rows (row_at rows j) s) q))
      where
        twin_place : (j : ℕ) → j < length rows → twin (row_at rows j) (row_at rows z) ≡ eqb j z
        twin_place j b = same_test _ _ (λ t. eq-eqb _ _ (v.twins j z b q t)) (λ t. rw (eqb-true j z t) (twin_self (row_at rows z)))

        choose : (b : Bool) {c d : Bool} → c ≡ d → ((b || c) || false) ≡ cond b true d
        choose true r = refl
        choose false {c} {d} r = last c ∙ r
          where
            last : (c : Bool) → (c || false) ≡ c
            last true = refl
            last false = refl

        go : NextIs i p e → ((j : ℕ) → j < length rows → sound rows (row_at rows j) ≡ true → leads n rows (row_at rows j) (row_at rows z) ≡ comes_to nexts z n j)
            → any (λ o. twin o (row_at rows z) || leads n rows o (row_at rows z)) (next rows (row_at rows i))
            ≡ cond (eqb (next_of w.sound (code1 w i) (row1 w i)) no_row) false
            (cond (eqb (next_of w.sound (code1 w i) (row1 w i)) z) true (comes_to nexts z n (next_of w.sound (code1 w i) (row1 w i))))
        go (nothing a b) ih = rw (a, b)
        go (row j l s a b) ih = rw (a, b, ne_eqb j no_row (omega (arith, v.few)), twin_place j l) (choose (eqb j z) (ih j l s))

    -- reason 12 of a well-formed row
    pub circle_is : (i : ℕ) → i < length rows → own (row_at rows i).reading ≡ 0 → circle rows (row_at rows i) ≡ comes_to nexts i (length rows) i
    unfolding circle
    circle_is i p e = comes_is (length rows) i i p e p
