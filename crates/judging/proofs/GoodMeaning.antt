-- Good rows, layer by layer, and along VALID chains.
use mathlib.Core.Path.{◌≡◌, refl, ap, sym, ◌∙◌}
use mathlib.Core.Bool.{Bool, true, false, cond, ◌&&◌}
use mathlib.Core.List.{List, map}
use Prim.Native.Nat.{ℕ, zero, suc, ◌+◌, ◌-◌, ◌≤◌, ◌<◌}
use native.Mathlib.Omega.{arith}
use lib.Dec.{eqb}
use lib.ListN.{length, get_or}
use borrow.Author.Tests.{eq-eqb, ne_eqb, eqb-true, eqb-false}
use Rattle.laws.specs.Lists.{any, or_else, first}
use Rattle.laws.specs.Prefix.{flag}
use Rattle.laws.proofs.At.{same_test}
use Rattle.laws.proofs.Cases.{bool_cases, and_left, and_right, and_both, false≢true}
use Rattle.laws.proofs.First.{or_else_zero, unless_zero}
use Rattle.laws.proofs.Tests.{any_up}
use Rattle.schemas.specs.Reasons.{reason_at as verdict_of}
use Rattle.verdicts.specs.Facts.{Naming}
use Rattle.verdicts.specs.Entries.{Entry, own, facts}
use Rattle.verdicts.specs.Verdicts.{asked, name_cell, within, verdict}
use Rattle.verdicts.proofs.VerdictLaw.{good_in, good_up}
use Rattle.manners.specs.Manners.{manner_at}
use Rattle.chain_steps.specs.Chains.{no_row, firm_from}
use Rattle.chains.proofs.DepthLaws.{firm_within}
use Rattle.met_names.specs.Names.{asked_at, met_at, name_at, final_of, firm_of}
use Rattle.base_verdicts.specs.Judged.{next_of, longest}
use Rattle.judging.proofs.Resolved.{row_at, Answers, Named, absent, present, Arrays, code1, row1, code2, row2, Resolved, is_good, good_sound}
use Rattle.judging.proofs.KindMeaning.{kinds_in, met_is}
use Rattle.judging.proofs.CircleMeaning.{flag_one, no_code, mark_is, no_mark}
use Rattle.judging.proofs.VerdictMeaning.{base_in, verdict_split, judge_zero, base_sound, not_good, cell_in, cells_in, names_verdict, cell_is, met_cell}

first_false : {a : Bool} (b : Bool) → a ≡ false → (a && b) ≡ false
first_false b e = rw e

last_false : (a : Bool) {b : Bool} → b ≡ false → (a && b) ≡ false
last_false true e = e
last_false false e = refl

asked_nowhere : (kinds : List ℕ) (code found : ℕ) → found ≡ no_row → asked_at kinds code found ≡ false
unfolding asked_at
asked_nowhere kinds code found e = rw (eq-eqb found no_row e)

module _ (rows : List Entry) (w : Arrays) (layer : ℕ → ℕ) (v : Resolved rows w layer) where
  abbrev kinds : List ℕ
  kinds = kinds_in rows w

  -- marks say of the rows up to a layer which are good
  abbrev pub Says : ℕ → List ℕ → Type 0
  Says most g = (j : ℕ) → j < length rows → layer j ≤ most → get_or g j 0 ≡ flag (is_good rows (row_at rows j))

  -- what a place names, where marks say of its layer which rows are good
  module _ (most : ℕ) (g : List ℕ) (says : Says most g) (code found : ℕ) (low : (code ≡ 0 → ⊥) → (found ≡ no_row → ⊥) → layer found ≤ most) where
    by_layer : (x : Named rows code found)
        → (name_at kinds g code found ≡ cell_in rows (is_good rows) x) × (met_at kinds g code found ≡ eqb (cell_in rows (is_good rows) x) 0)
    unfolding name_at met_at
    by_layer (absent e) = (rw e, rw e)
    by_layer (present n e r) =
        let gm : (found ≡ no_row → ⊥) → found < length rows → get_or g found 0 ≡ flag (is_good rows (row_at rows found)) = λ some q. says found q (low e some) in (
          cell_is rows w layer v (is_good rows) (λ o t. t) code found g gm (present n e r),
          met_cell rows w layer v (is_good rows) (λ o t. t) code found g gm (present n e r),
        )

  -- the verdict of a row, where marks say which of the rows that it names are good
  module _ (most : ℕ) (g : List ℕ) (says : Says most g) (i : ℕ) (p : i < length rows)
      (low1 : (code1 w i ≡ 0 → ⊥) → (row1 w i ≡ no_row → ⊥) → layer (row1 w i) ≤ most)
      (low2 : (code2 w i ≡ 0 → ⊥) → (row2 w i ≡ no_row → ⊥) → layer (row2 w i) ≤ most) where
    pub final_is : (base : ℕ) → base ≡ base_in rows (row_at rows i)
        → final_of kinds g base (code1 w i) (row1 w i) (code2 w i) (row2 w i) ≡ verdict rows (row_at rows i)
    unfolding final_of
    final_is zero e =
        let z : base_in rows (row_at rows i) ≡ 0 = sym e in
        let s = v.named i p (base_sound rows (row_at rows i) z).0 in
        rw ((by_layer most g says _ _ low1 s.one).0, (by_layer most g says _ _ low2 s.two).0) (sym (names_verdict rows (row_at rows i) z s))
    final_is (suc b) e =
        sym (verdict_split rows (row_at rows i) ∙ ap (λ (x : ℕ). or_else x (first (map (name_cell rows (is_good rows)) (facts (row_at rows i)).names))) (sym e))

  -- a row that names nothing is good where it has no other reason
  pub quiet_good : (i : ℕ) → i < length rows → code1 w i ≡ 0 → code2 w i ≡ 0 → eqb (base_in rows (row_at rows i)) 0 ≡ is_good rows (row_at rows i)
  quiet_good i p a b = go (eqb (base_in rows (row_at rows i)) 0) refl
    where
      none_in : {code found : ℕ} → code ≡ 0 → (x : Named rows code found) → cell_in rows (is_good rows) x ≡ 0
      none_in e (absent q) = refl
      none_in e (present n q r) = absurd (q e)

      go : (t : Bool) → eqb (base_in rows (row_at rows i)) 0 ≡ t → t ≡ is_good rows (row_at rows i)
      go true q =
          let z : base_in rows (row_at rows i) ≡ 0 = eqb-true _ _ q in
          let s = v.named i p (base_sound rows (row_at rows i) z).0 in
          sym (eq-eqb _ 0 (names_verdict rows (row_at rows i) z s ∙ rw (none_in a s.one, none_in b s.two)))
      go false q = sym (not_good rows (row_at rows i) (eqb-false _ _ q))

  -- ---- along chains

  -- clean: without reasons 1 to 10 and 12; next: the next rows; firm: as the passes leave it
  module _ (clean next firm : List ℕ)
      (cleans : (j : ℕ) → j < length rows → get_or clean j 0 ≡ flag (eqb (base_in rows (row_at rows j)) 0))
      (nexts : (j : ℕ) → j < length rows → get_or next j no_row ≡ next_of w.sound (code1 w j) (row1 w j))
      (firms : (j : ℕ) → j < length rows → get_or firm j 0
      ≡ flag (firm_of kinds clean (base_in rows (row_at rows j)) (code1 w j) (row1 w j) (get_or next j no_row) (code2 w j) (row2 w j))) where
    -- layer 0 names nothing
    clean_says : Says 0 clean
    clean_says j q l =
        let e : layer j ≡ 0 = omega arith in
        let c = v.layers.quiet j q e in
        cleans j q ∙ ap flag (quiet_good j q c.0 c.1)

    -- what a row of layer 1 names beside its chain
    first_clean : (i : ℕ) → i < length rows → layer i ≡ 1 → (manner_at (code1 w i)).chained ≡ false → (x : Named rows (code1 w i) (row1 w i))
        → met_at kinds clean (code1 w i) (row1 w i) ≡ eqb (cell_in rows (is_good rows) x) 0
    first_clean i p e t x = (by_layer 0 clean clean_says _ _ (λ c f. omega (arith, v.layers.below1 i p t c f)) x).1

    second_met : (i : ℕ) → i < length rows → layer i ≡ 1 → (x : Named rows (code2 w i) (row2 w i))
        → met_at kinds clean (code2 w i) (row2 w i) ≡ eqb (cell_in rows (is_good rows) x) 0
    second_met i p e x = (by_layer 0 clean clean_says _ _ (λ c f. omega (arith, v.layers.below2 i p c f)) x).1

    -- no row meets it, whichever good rows are asked
    abbrev NeverMet : Naming → Type 0
    NeverMet n = (good : Entry → Bool) → ((o : Entry) → good o ≡ true → is_good rows o ≡ true) → any good (asked rows n) ≡ false

    -- the next row by its first name
    data Link (i : ℕ) : Type 0 where
      ends : (manner_at (code1 w i)).chained ≡ false → get_or next i no_row ≡ no_row → Link i
      broken : (manner_at (code1 w i)).chained ≡ true → (code1 w i ≡ 0 → ⊥) → get_or next i no_row ≡ no_row
          → ((n : Naming) → Answers rows n (code1 w i) (row1 w i) → NeverMet n) → Link i
      on : (manner_at (code1 w i)).chained ≡ true → (code1 w i ≡ 0 → ⊥) → get_or next i no_row ≡ row1 w i → (row1 w i ≡ no_row → ⊥) → row1 w i < length rows
          → layer (row1 w i) ≡ 1 → Link i

    some_code : (c : ℕ) → (manner_at c).chained ≡ true → c ≡ 0 → ⊥
    some_code c t e = false≢true (sym (no_code c e) ∙ t)

    link_is : (i : ℕ) → i < length rows → layer i ≡ 1 → own (row_at rows i).reading ≡ 0 → Link i
    unfolding next_of
    link_is i p e formed = go (manner_at (code1 w i)).chained refl (v.named i p formed).one
      where
        unmarked : (manner_at (code1 w i)).chained ≡ true → eqb (get_or w.sound (row1 w i) 0) 1 ≡ false → get_or next i no_row ≡ no_row
        unmarked t m = nexts i p ∙ rw (t, m)

        marked : (manner_at (code1 w i)).chained ≡ true → eqb (get_or w.sound (row1 w i) 0) 1 ≡ true → get_or next i no_row ≡ row1 w i
        marked t m = nexts i p ∙ rw (t, m)

        -- what was found isn't there, or isn't sound: no good row is found
        none_good : eqb (get_or w.sound (row1 w i) 0) 1 ≡ false → (n : Naming) → Answers rows n (code1 w i) (row1 w i) → NeverMet n
        none_good m n r good fine = met_is rows w layer v n _ _ r good fine ∙ by (eqb (row1 w i) no_row) refl
          where
            by : (b : Bool) → eqb (row1 w i) no_row ≡ b → (asked_at kinds (code1 w i) (row1 w i) && good (row_at rows (row1 w i))) ≡ false
            by true q = first_false _ (asked_nowhere kinds (code1 w i) (row1 w i) (eqb-true _ _ q))
            by false q =
                let h = r.there (eqb-false _ _ q) in
                last_false (asked_at kinds (code1 w i) (row1 w i))
                (bool_cases (good (row_at rows (row1 w i)))
                (λ t. absurd (false≢true (sym m ∙ mark_is rows w layer v (row1 w i) h.0 ∙ good_sound rows _ (fine _ t)))) (λ t. t))

        go : (b : Bool) → (manner_at (code1 w i)).chained ≡ b → Named rows (code1 w i) (row1 w i) → Link i
        go false t x =
            ends t (nexts i p ∙ rw t)
        go true t (absent z) = absurd (some_code (code1 w i) t z)
        go true t (present n z r) = by (eqb (get_or w.sound (row1 w i) 0) 1) refl
          where
            some : eqb (get_or w.sound (row1 w i) 0) 1 ≡ true → row1 w i ≡ no_row → ⊥
            some m q = false≢true (sym (no_mark_at (row1 w i) q) ∙ m)
              where
                no_mark_at : (j : ℕ) → j ≡ no_row → eqb (get_or w.sound j 0) 1 ≡ false
                no_mark_at j q = ap (λ (k : ℕ). eqb (get_or w.sound k 0) 1) q ∙ no_mark rows w layer v

            by : (b : Bool) → eqb (get_or w.sound (row1 w i) 0) 1 ≡ b → Link i
            by true m = on t z (marked t m) (some m) (r.there (some m)).0 ((v.layers.along i p t).1 (some m))
            by false m = broken t z (unmarked t m) (none_good m)

    -- what the mark of a firm row says
    firm_says : (i : ℕ) → i < length rows → eqb (get_or firm i 0) 1
        ≡ firm_of kinds clean (base_in rows (row_at rows i)) (code1 w i) (row1 w i) (get_or next i no_row) (code2 w i) (row2 w i)
    firm_says i p = ap (λ (x : ℕ). eqb x 1) (firms i p) ∙ flag_one _

    -- what its first name says of a firm row
    abbrev link_of : ℕ → Bool
    link_of i = cond (manner_at (code1 w i)).chained (asked_at kinds (code1 w i) (get_or next i no_row)) (met_at kinds clean (code1 w i) (row1 w i))

    -- a row is firm: no reason, the next row is of the kind asked, and the second name is met
    record Firm (i : ℕ) : Type 0 where
      base : base_in rows (row_at rows i) ≡ 0
      link : link_of i ≡ true
      second : met_at kinds clean (code2 w i) (row2 w i) ≡ true

    to_firm : (i : ℕ) → i < length rows → eqb (get_or firm i 0) 1 ≡ true → Firm i
    unfolding firm_of
    to_firm i p t =
        let u : (eqb (base_in rows (row_at rows i)) 0 && (link_of i && met_at kinds clean (code2 w i) (row2 w i))) ≡ true =
        sym (firm_says i p) ∙ t in
        let l = and_right (eqb (base_in rows (row_at rows i)) 0) _ u in
        record {
          base = eqb-true _ _ (and_left _ _ u);
          link = and_left _ _ l;
          second = and_right (link_of i) _ l;
        }

    from_firm : (i : ℕ) → i < length rows → Firm i → eqb (get_or firm i 0) 1 ≡ true
    unfolding firm_of
    from_firm i p f = firm_says i p ∙ and_both (eq-eqb _ 0 f.base) (and_both f.link f.second)

    -- the rest of a chain
    abbrev rest : ℕ → ℕ → Bool
    rest n i = cond (eqb (get_or next i no_row) no_row) true (firm_from next firm n (get_or next i no_row))

    none_in : {code found : ℕ} (good : Entry → Bool) → code ≡ 0 → (x : Named rows code found) → cell_in rows good x ≡ 0
    none_in good e (absent q) = refl
    none_in good e (present n q r) = absurd (q e)

    -- a chain that ends, all firm, makes its row good
    pub chain_good : (n i : ℕ) → i < length rows → layer i ≡ 1 → firm_from next firm n i ≡ true → verdict rows (row_at rows i) ≡ 0
    unfolding firm_from name_cell
    chain_good zero i p e t = absurd (false≢true t)
    chain_good (suc n) i p e t =
        let f = to_firm i p (and_left _ _ t) in
        let formed = (base_sound rows (row_at rows i) f.base).0 in
        let s = v.named i p formed in
        let z : cell_in rows (is_good rows) s.two ≡ 0 = eqb-true _ _ (sym (second_met i p e s.two) ∙ f.second) in
        names_verdict rows (row_at rows i) f.base s
        ∙ rw z
        (or_none (first_met f (link_is i p e formed) s.one (and_right (eqb (get_or firm i 0) 1) _ t) (λ j q l u. chain_good n j q l u)))
      where
        or_none : {c : ℕ} → c ≡ 0 → or_else c 0 ≡ 0
        or_none q = rw q

        first_met : Firm i → Link i → (x : Named rows (code1 w i) (row1 w i)) → rest n i ≡ true
            → ((j : ℕ) → j < length rows → layer j ≡ 1 → firm_from next firm n j ≡ true → verdict rows (row_at rows j) ≡ 0) → cell_in rows (is_good rows) x ≡ 0
        first_met f (ends c q) x u ih = eqb-true _ _ (sym (first_clean i p e c x) ∙ (rw c at f.link))
        first_met f (broken c z q b) x u ih =
            absurd (false≢true (sym (rw (c, q) (asked_nowhere kinds (code1 w i) no_row refl)) ∙ f.link))
        first_met f (on c z q some l y) (absent a) u ih = absurd (z a)
        first_met f (on c z q some l y) (present m a r) u ih =
            let g : firm_from next firm n (row1 w i) ≡ true = rw (q, ne_eqb (row1 w i) no_row some) at u in
            let k : asked_at kinds (code1 w i) (row1 w i) ≡ true = rw (c, q) at f.link in
            rw (met_is rows w layer v m _ _ r (is_good rows) (λ o t. t), k, eq-eqb (verdict rows (row_at rows (row1 w i))) 0 (ih (row1 w i) l y g))

    -- rows that are good within some names are good
    within_more : (m n : ℕ) (o : Entry) → good_in rows n o ≡ true → good_in rows (m + n) o ≡ true
    within_more zero n o t = let e : 0 + n ≡ n = omega arith in rw e t
    within_more (suc m) n o t = let e : suc m + n ≡ suc (m + n) = omega arith in rw e (good_up rows (m + n) o (within_more m n o t))

    within_good : (n : ℕ) → n ≤ suc (length rows) → (o : Entry) → good_in rows n o ≡ true → is_good rows o ≡ true
    unfolding verdict
    within_good n l o t = let e : (suc (length rows) - n) + n ≡ suc (length rows) = omega arith in rw e at (within_more (suc (length rows) - n) n o t)

    -- a name that is met by some rows is met by more
    cell_up : {code found : ℕ} (good good' : Entry → Bool) → ((o : Entry) → good o ≡ true → good' o ≡ true) → (x : Named rows code found)
        → cell_in rows good x ≡ 0 → cell_in rows good' x ≡ 0
    unfolding name_cell
    cell_up good good' h (absent e) z = refl
    cell_up good good' h (present n e r) z = rw (any_up good good' (asked rows n) h (unless_zero _ (verdict_of 11 n.column) (omega arith) z))

    -- a good row's chain ends, all firm
    pub good_chain : (n i : ℕ) → i < length rows → layer i ≡ 1 → n ≤ suc (length rows) → good_in rows n (row_at rows i) ≡ true → firm_from next firm n i ≡ true
    unfolding firm_from within name_cell
    good_chain zero i p e l t = absurd (false≢true t)
    good_chain (suc n) i p e l t =
        let u = judge_zero rows (good_in rows n) (row_at rows i) (eqb-true _ _ t) in
        let formed = (base_sound rows (row_at rows i) u.0).0 in
        let s = v.named i p formed in
        let c : or_else (cell_in rows (good_in rows n) s.one) (cell_in rows (good_in rows n) s.two) ≡ 0 =
        sym (ap (λ (l : List Naming). first (map (name_cell rows (good_in rows n)) l)) s.are ∙ cells_in rows (good_in rows n) s.one s.two) ∙ u.1 in
        let d = or_else_zero (cell_in rows (good_in rows n) s.one) _ c in
        let up : (o : Entry) → good_in rows n o ≡ true → is_good rows o ≡ true = within_good n (omega arith) in
        let two : met_at kinds clean (code2 w i) (row2 w i) ≡ true =
        second_met i p e s.two ∙ eq-eqb _ 0 (cell_up (good_in rows n) (is_good rows) up s.two d.1) in
        first_good u.0 two (link_is i p e formed) s.one d.0 (λ j q y g. good_chain n j q y (omega arith) g)
      where
        first_good : base_in rows (row_at rows i) ≡ 0 → met_at kinds clean (code2 w i) (row2 w i) ≡ true → Link i
            → (x : Named rows (code1 w i) (row1 w i)) → cell_in rows (good_in rows n) x ≡ 0
            → ((j : ℕ) → j < length rows → layer j ≡ 1 → good_in rows n (row_at rows j) ≡ true → firm_from next firm n j ≡ true)
            → (eqb (get_or firm i 0) 1 && rest n i) ≡ true
        first_good b two (ends c q) x k ih =
            let up : (o : Entry) → good_in rows n o ≡ true → is_good rows o ≡ true = within_good n (omega arith) in
            and_both (from_firm i p (record {
              base = b;
              link = rw c
                  (first_clean i p e c x ∙ eq-eqb _ 0 (cell_up (good_in rows n) (is_good rows) up x k));
              second = two;
            })) (rw q)
        first_good b two (broken c z q f) (absent a) k ih = absurd (z a)
        first_good b two (broken c z q f) (present m a r) k ih =
            absurd (false≢true (sym (f m r (good_in rows n) (within_good n (omega arith))) ∙ unless_zero _ (verdict_of 11 m.column) (omega arith) k))
        first_good b two (on c z q some l y) (absent a) k ih = absurd (z a)
        first_good b two (on c z q some h y) (present m a r) k ih =
            let t : (asked_at kinds (code1 w i) (row1 w i) && good_in rows n (row_at rows (row1 w i))) ≡ true =
            sym (met_is rows w layer v m _ _ r (good_in rows n) (within_good n (omega arith))) ∙ unless_zero _ (verdict_of 11 m.column) (omega arith) k in
            and_both (from_firm i p (record { base = b; link = rw (c, q) (and_left _ _ t); second = two }))
            (rw (q, ne_eqb (row1 w i) no_row some) (ih (row1 w i) h y (and_right (asked_at kinds (code1 w i) (row1 w i)) _ t)))

    -- a row that names nothing is firm where it has no reason, and its chain ends with it
    alone_firm : (n i : ℕ) → 0 < n → get_or next i no_row ≡ no_row → firm_from next firm n i ≡ eqb (get_or firm i 0) 1
    unfolding firm_from
    alone_firm zero i h e = absurd (omega arith)
    alone_firm (suc n) i h e = rw e (and_true (eqb (get_or firm i 0) 1))
      where
        and_true : (b : Bool) → (b && true) ≡ b
        and_true true = refl
        and_true false = refl

    quiet_firm : (i : ℕ) → i < length rows → layer i ≡ 0 → firm_from next firm longest i ≡ is_good rows (row_at rows i)
    unfolding firm_of next_of met_at
    quiet_firm i p e =
        let c = v.layers.quiet i p e in
        let u : (manner_at (code1 w i)).chained ≡ false = no_code (code1 w i) c.0 in
        let q : get_or next i no_row ≡ no_row = nexts i p ∙ rw u in
        alone_firm longest i (omega arith) q ∙ firm_says i p ∙ rw (u, eq-eqb (code1 w i) 0 c.0, eq-eqb (code2 w i) 0 c.1)
        (and_all (eqb (base_in rows (row_at rows i)) 0)) ∙ quiet_good i p c.0 c.1
      where
        and_all : (b : Bool) → (b && true) ≡ b
        and_all true = refl
        and_all false = refl

    -- so chains say which rows of layers 0 and 1 are good
    pub chained_says : (g : List ℕ) → ((j : ℕ) → j < length rows → get_or g j 0 ≡ flag (firm_from next firm longest j)) → Says 1 g
    unfolding verdict
    chained_says g h j q l = h j q ∙ ap flag (go (layer j) refl l)
      where
        go : (k : ℕ) → layer j ≡ k → k ≤ 1 → firm_from next firm longest j ≡ is_good rows (row_at rows j)
        go zero e m = quiet_firm j q e
        go (suc zero) e m =
            same_test _ _ (λ t. eq-eqb _ 0 (chain_good longest j q e t))
            (λ t. firm_within next firm (suc (length rows)) longest j (omega (arith, v.few)) (good_chain (suc (length rows)) j q e (omega arith) t))
        go (suc (suc k)) e m = absurd (omega arith)
