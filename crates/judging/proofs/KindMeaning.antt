-- The kinds that good rows are of, by conditions on them and on the second rows that they lead to,
-- and what meets a naming.
use mathlib.Core.Path.{◌≡◌, refl, ap, sym, subst, ◌∙◌}
use mathlib.Core.Bool.{Bool, true, false, not, ◌&&◌, ◌||◌}
use mathlib.Core.List.Memᴰ
use mathlib.Core.List.{List, [], ◌∷◌, ◌++◌, Memᴰ}
use Prim.Native.Nat.{ℕ, ◌<◌}
use lib.Dec.{eqb}
use lib.ListN.{length, get_or}
use borrow.Author.Tests.{eq-eqb, ne_eqb, eqb-true}
use Rattle.laws.specs.Lists.{any}
use Rattle.laws.proofs.At.{same_test, any_place, place_any}
use Rattle.laws.proofs.Cases.{bool_cases, and_left, and_right, and_both, and_false, or_left, or_right, false≢true}
use Rattle.laws.proofs.Lists.{at_mem}
use Rattle.laws.proofs.Tests.{any_mem, any_witness, any_keep}
use Rattle.verdicts.specs.Facts.{Condition, Kind, itself, through, Naming}
use Rattle.verdicts.specs.Entries.{Entry, facts}
use Rattle.verdicts.specs.Steps.{twin, holds, names_at}
use Rattle.verdicts.specs.Verdicts.{sound, of_kind, asked}
use Rattle.verdicts.specs.Good.{Good}
use Rattle.verdicts.proofs.SoundLaws.{alone}
use Rattle.verdicts.proofs.GoodLaw.{good_law}
use Rattle.manners.specs.Manners.{second_column, second_condition, second_weight, manners, manner_at, weight, kind_weight, is_met_by, is_second}
use Rattle.manners.proofs.MannerLaws.{Asks, of_itself, of_second, asks}
use Rattle.manners.proofs.MarkLaws.{second_apart, second_told}
use Rattle.chain_steps.specs.Chains.{no_row}
use Rattle.kinds.specs.Kinds.{second_at, kinds_of}
use Rattle.met_names.specs.Names.{asked_at}
use Rattle.base_verdicts.specs.Judged.{kind_rows}
use Rattle.judging.proofs.PassLaws.{filled_at}
use Rattle.judging.proofs.Resolved.{no_entry, row_at, Answers, Named, absent, present, names_in, Names, Arrays, code1, row1, code2, row2}
use Rattle.judging.proofs.Resolved.{Resolved, is_good, good_sound, sole}
use Rattle.judging.proofs.CircleMeaning.{sound_formed}

-- the kinds of all rows, as the passes leave them
unfoldable pub kinds_in : List Entry → Arrays → List ℕ
kinds_in rows w = kind_rows w.marks w.codes1 w.found1 w.codes2 w.found2 (length rows)

-- two rows that are both the same as a third
twin_across : (z a b : Entry) → twin z a ≡ true → twin z b ≡ true → twin a b ≡ true
unfolding twin
twin_across z a b s t =
    let p : z.table ≡ a.table = eqb-true _ _ (and_left _ _ s) in
    let q : z.row ≡ a.row = eqb-true _ _ (and_right (eqb z.table a.table) _ s) in
    rw (← p, ← q) t

-- what names nothing leads to no second row
no_second : (marks : List ℕ) (code found : ℕ) → code ≡ 0 → second_at marks code found ≡ false
unfolding second_at is_second manner_at manners
no_second marks code found e = rw e (and_false (not (eqb found no_row)))

last_mem : {rows : List Entry} {c f : ℕ} (n : Naming) (x : Named rows c f) → Memᴰ n (names_in x ++ n ∷ [])
last_mem n (absent e) = Memᴰ.head refl
last_mem n (present m e r) = Memᴰ.tail (Memᴰ.head refl)

module _ (rows : List Entry) (w : Arrays) (layer : ℕ → ℕ) (v : Resolved rows w layer) where
  -- a good row
  module _ (j : ℕ) (p : j < length rows) (good : is_good rows (row_at rows j) ≡ true) where
    abbrev here : Entry
    here = row_at rows j

    is_good_lem : Good rows here
    is_good_lem = (good_law rows here).0 (eqb-true _ _ good)

    names : Names rows (code1 w j) (row1 w j) (code2 w j) (row2 w j) (facts here).names
    names = v.named j p (sound_formed rows here is_good_lem.is_sound)

    -- what it names is held by one row alone, which is the one found
    found_only : (n : Naming) (code found k : ℕ) → Answers rows n code found → Memᴰ n (facts here).names → k < length rows
        → holds (row_at rows k) n.key ≡ true → found ≡ k
    found_only n code found k r m q h =
        let x = is_good_lem.named n m in
        let s : sound rows x.0 ≡ true = ((good_law rows x.0).0 x.1.good).is_sound in
        let g = r.there (r.finds k q h) in
        let same : (i : ℕ) → i < length rows → holds (row_at rows i) n.key ≡ true → twin x.0 (row_at rows i) ≡ true =
        λ i b t. alone rows x.0 (row_at rows i) n.key (at_mem rows i no_entry b) s x.1.held t in
        v.twins found k g.0 q (twin_across x.0 (row_at rows found) (row_at rows k) (same found g.0 g.1) (same k q h))

    -- a row that the second column names, and that meets the condition
    abbrev is_named : Entry → Bool
    is_named q = names_at second_column here q

    abbrev meets_second : Entry → Bool
    meets_second q = (facts q).meets second_condition

    abbrev second_of : ℕ → ℕ → Bool
    second_of code found = second_at w.marks code found

    to_second : (n : Naming) (code found k : ℕ) → Answers rows n code found → Memᴰ n (facts here).names → k < length rows
        → (eqb n.column second_column && holds (row_at rows k) n.key) ≡ true → meets_second (row_at rows k) ≡ true → second_of code found ≡ true
    unfolding second_at is_second
    to_second n code found k r m q t u =
        let h : holds (row_at rows k) n.key ≡ true = and_right (eqb n.column second_column) _ t in
        let e : found ≡ k = found_only n code found k r m q h in
        and_both (ap not (ne_eqb found no_row (r.finds k q h)))
        (and_both (ap (λ (x : ℕ). eqb x second_column) (sym r.column) ∙ and_left _ _ t)
        (ap (λ (i : ℕ). is_met_by (get_or w.marks i 0) (weight second_condition)) e ∙ sym (v.marked k q second_condition) ∙ u))

    from_second : (n : Naming) (code found : ℕ) → Answers rows n code found → Memᴰ n (facts here).names → second_of code found ≡ true
        → of_kind rows (through second_column second_condition) here ≡ true
    unfolding second_at is_second of_kind names_at
    from_second n code found r m t =
        let some : found ≡ no_row → ⊥ = λ q. false≢true (sym (ap not (eq-eqb found no_row q)) ∙ and_left _ _ t) in
        let h = r.there some in
        let u : (eqb (manner_at code).column second_column && is_met_by (get_or w.marks found 0) (weight second_condition)) ≡ true =
        and_right (not (eqb found no_row)) _ t in
        let c : eqb n.column second_column ≡ true = ap (λ (x : ℕ). eqb x second_column) r.column ∙ and_left _ _ u in
        let b : meets_second (row_at rows found) ≡ true = v.marked found h.0 second_condition ∙ and_right (eqb (manner_at code).column second_column) _ u in
        any_keep is_named meets_second rows
        ∙ place_any no_entry (λ q. is_named q && meets_second q) rows found h.0
        (and_both {a = is_named (row_at rows found)} (any_mem (λ m. eqb m.column second_column && holds (row_at rows found) m.key) m (and_both c h.1)) b)

    -- the place in which it names
    data Placed (n : Naming) : Type 0 where
      in_one : Answers rows n (code1 w j) (row1 w j) → Placed n
      in_two : Answers rows n (code2 w j) (row2 w j) → Placed n

    placed : (x : Named rows (code1 w j) (row1 w j)) (y : Named rows (code2 w j) (row2 w j)) (n : Naming) → Memᴰ n (names_in x ++ names_in y) → Placed n
    placed (absent e) (absent q) n m = absurd (Memᴰ.not-nil m)
    placed (absent e) (present k q r) n m = in_two (subst (λ (l : Naming). Answers rows l (code2 w j) (row2 w j)) (sym (Memᴰ.eq_of_singleton m)) r)
    placed (present k q r) (absent e) n m = in_one (subst (λ (l : Naming). Answers rows l (code1 w j) (row1 w j)) (sym (Memᴰ.eq_of_singleton m)) r)
    placed (present k q r) (present i e u) n (Memᴰ.head z) = in_one (subst (λ (l : Naming). Answers rows l (code1 w j) (row1 w j)) (sym z) r)
    placed (present k q r) (present i e u) n (Memᴰ.tail m) =
        in_two (subst (λ (l : Naming). Answers rows l (code2 w j) (row2 w j)) (sym (Memᴰ.eq_of_singleton m)) u)

    abbrev leads_on : Bool
    leads_on = second_of (code1 w j) (row1 w j) || second_of (code2 w j) (row2 w j)

    second_to : of_kind rows (through second_column second_condition) here ≡ true → leads_on ≡ true
    unfolding of_kind names_at
    second_to t =
        let k = any_place no_entry (λ q. is_named q && meets_second q) rows (sym (any_keep is_named meets_second rows) ∙ t) in
        let a = any_witness (λ m. eqb m.column second_column && holds (row_at rows k.at) m.key) (facts here).names (and_left _ _ k.holds) in
        let u : meets_second (row_at rows k.at) ≡ true = and_right (is_named (row_at rows k.at)) _ k.holds in
        let s = placed names.one names.two a.0 (subst (λ (l : List Naming). Memᴰ a.0 l) names.are a.1) in
        by a.0 s (λ code found r. to_second a.0 code found k.at r a.1 k.below a.2 u)
      where
        by : (n : Naming) → Placed n → ((code found : ℕ) → Answers rows n code found → second_of code found ≡ true) → leads_on ≡ true
        by n (in_one r) h = or_left (second_of (code2 w j) (row2 w j)) (h _ _ r)
        by n (in_two r) h = or_right (second_of (code1 w j) (row1 w j)) (h _ _ r)

    from_one : (x : Named rows (code1 w j) (row1 w j)) → names.one ≡ x → second_of (code1 w j) (row1 w j) ≡ true
        → of_kind rows (through second_column second_condition) here ≡ true
    from_one (absent e) q a = absurd (false≢true (sym (no_second w.marks (code1 w j) (row1 w j) e) ∙ a))
    from_one (present n e r) q a = from_second n _ _ r (rw (names.are, q) (Memᴰ.head refl)) a

    from_two : (x : Named rows (code2 w j) (row2 w j)) → names.two ≡ x → second_of (code2 w j) (row2 w j) ≡ true
        → of_kind rows (through second_column second_condition) here ≡ true
    from_two (absent e) q a = absurd (false≢true (sym (no_second w.marks (code2 w j) (row2 w j) e) ∙ a))
    from_two (present n e r) q a = from_second n _ _ r (rw (names.are, q) (last_mem n names.one)) a

    second_from : leads_on ≡ true → of_kind rows (through second_column second_condition) here ≡ true
    second_from t =
        bool_cases (second_of (code1 w j) (row1 w j)) (from_one names.one refl)
        (λ a. from_two names.two refl (rw a at t))

    -- the mark of each kind
    kinds_at_lem : get_or (kinds_in rows w) j 0 ≡ kinds_of w.marks (get_or w.marks j 0) (code1 w j) (row1 w j) (code2 w j) (row2 w j)
    unfolding kinds_in
    kinds_at_lem = filled_at 0 _ (length rows) j 0 v.few p

    itself_is : (c : Condition) → of_kind rows (itself c) here ≡ is_met_by (get_or (kinds_in rows w) j 0) (weight c)
    unfolding of_kind kinds_of
    itself_is c = v.marked j p c ∙ sym (ap (λ (m : ℕ). is_met_by m (weight c)) kinds_at_lem ∙ second_apart _ _ c)

    through_is : of_kind rows (through second_column second_condition) here ≡ is_met_by (get_or (kinds_in rows w) j 0) second_weight
    unfolding kinds_of
    through_is = same_test _ _ second_to second_from ∙ sym (ap (λ (m : ℕ). is_met_by m second_weight) kinds_at_lem ∙ second_told _ _)

    by_kind : (k : Kind) → Asks k → of_kind rows k here ≡ is_met_by (get_or (kinds_in rows w) j 0) (kind_weight k)
    unfolding weight
    by_kind k (of_itself c e) = rw e (itself_is c)
    by_kind k (of_second e) = rw e through_is

    -- THE LAW OF KINDS: a good row is of a kind that is asked for just where its mark says so
    pub kind_law : (code : ℕ) → of_kind rows (manner_at code).kind here ≡ is_met_by (get_or (kinds_in rows w) j 0) (kind_weight (manner_at code).kind)
    kind_law code = by_kind (manner_at code).kind (asks code)

  -- a naming is met just where what is found is of the kind asked and good
  module _ (n : Naming) (code found : ℕ) (r : Answers rows n code found) (good : Entry → Bool) (fine : (o : Entry) → good o ≡ true → is_good rows o ≡ true) where
    abbrev wanted : Entry → Bool
    wanted o = holds o n.key && of_kind rows n.kind o

    kind_at : (k : ℕ) → k < length rows → good (row_at rows k) ≡ true
        → of_kind rows n.kind (row_at rows k) ≡ is_met_by (get_or (kinds_in rows w) k 0) (kind_weight (manner_at code).kind)
    kind_at k q g = ap (λ (x : Kind). of_kind rows x (row_at rows k)) r.kind ∙ kind_law k q (fine _ g) code

    to_found : any good (asked rows n) ≡ true → (asked_at (kinds_in rows w) code found && good (row_at rows found)) ≡ true
    unfolding asked asked_at
    to_found t =
        let p = any_place no_entry (λ o. wanted o && good o) rows (sym (any_keep wanted good rows) ∙ t) in
        let a : wanted (row_at rows p.at) ≡ true = and_left _ _ p.holds in
        let g : good (row_at rows p.at) ≡ true = and_right (wanted (row_at rows p.at)) _ p.holds in
        let h : holds (row_at rows p.at) n.key ≡ true = and_left _ _ a in
        let m : of_kind rows n.kind (row_at rows p.at) ≡ true = and_right (holds (row_at rows p.at) n.key) _ a in
        let e : found ≡ p.at = sole rows w layer v n code found r p.at p.below (good_sound rows _ (fine _ g)) h in
        and_both (and_both (ap not (ne_eqb found no_row (r.finds p.at p.below h))) (rw e (sym (kind_at p.at p.below g) ∙ m))) (rw e g)

    from_found : (asked_at (kinds_in rows w) code found && good (row_at rows found)) ≡ true → any good (asked rows n) ≡ true
    unfolding asked asked_at
    from_found t =
        let a : (not (eqb found no_row) && is_met_by (get_or (kinds_in rows w) found 0) (kind_weight (manner_at code).kind)) ≡ true = and_left _ _ t in
        let g : good (row_at rows found) ≡ true =
        and_right (not (eqb found no_row) && is_met_by (get_or (kinds_in rows w) found 0) (kind_weight (manner_at code).kind)) _ t in
        let some : found ≡ no_row → ⊥ = λ q. false≢true (sym (ap not (eq-eqb found no_row q)) ∙ and_left _ _ a) in
        let h = r.there some in
        any_keep wanted good rows
        ∙ place_any no_entry (λ o. wanted o && good o) rows found h.0
        (and_both (and_both h.1 (kind_at found h.0 g ∙ and_right (not (eqb found no_row)) _ a)) g)

    pub met_is : any good (asked rows n) ≡ (asked_at (kinds_in rows w) code found && good (row_at rows found))
    met_is = same_test _ _ to_found from_found
