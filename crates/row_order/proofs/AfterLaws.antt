-- A cause is told before its consequences: each row of reason 11 comes after the row that it names,
-- unless that one leads back to it.
use mathlib.Core.Path.{◌≡◌, refl, ap, sym, subst, ◌∙◌}
use mathlib.Core.Bool.{Bool, true, false, not, cond, ◌&&◌, ◌||◌}
use mathlib.Core.List.{List, [], ◌∷◌, ◌++◌, append-nil}
use mathlib.Core.Logic.{◌⊎◌, inl, inr}
use Prim.Native.Nat.{ℕ, zero, suc, ◌+◌, ◌≤◌, ◌<◌}
use native.Mathlib.Omega.{arith}
use lib.Dec.{eqb, ltb}
use lib.ListN.{get_or}
use borrow.Author.Tests.{eqb-true, eq-eqb}
use Rattle.laws.specs.Prefix.{all_from, flag, count_with}
use Rattle.laws.proofs.Cases.{bool_cases, or_left, or_right}
use Rattle.laws.proofs.Count.{count_or, count_some, count_within}
use Rattle.std.specs.Prelude.{Option, Some, None}
use Rattle.pointing.specs.Pointing.{points_to}
use Rattle.row_order.specs.RowOrder.{turn_of, in_turn, first_cause, is_in, on_a_row, way_to, told_before, times_in, Leads, here, on, AllAfter}
use Rattle.row_order.proofs.TurnLaws.{turn_cases}
use Rattle.row_order.proofs.TellLaws.{first_below, in_append}
use Rattle.row_order.proofs.OnceLaws.{not_in, way_there, times_inside}

times_in_lem : (x : ℕ) (a : List ℕ) → 1 ≤ times_in x a → is_in x a ≡ true
times_in_lem x a h = bool_cases (is_in x a) (λ t. t) (λ t. absurd (let z = not_in x a t in omega arith))

in_front : (x : ℕ) (a b : List ℕ) → is_in x a ≡ true → is_in x (a ++ b) ≡ true
in_front x a b e = in_append x a b ∙ or_left (is_in x b) e

in_back : (x : ℕ) (a b : List ℕ) → is_in x b ≡ true → is_in x (a ++ b) ≡ true
in_back x a b e = in_append x a b ∙ or_right (is_in x a) e

-- how many of the first n rows were told
module _ (n : ℕ) where
  abbrev told_of : List ℕ → ℕ
  told_of told = count_with (λ x. is_in x told) n

  grows : (told : List ℕ) (i : ℕ) → i < n → is_in i told ≡ false → told_of told + 1 ≤ told_of (i ∷ told)
  grows told i h e =
      let both = count_or (λ x. eqb x i) (λ x. is_in x told) n apart in
      let one = count_some (λ x. eqb x i) i n h (eq-eqb i i refl) in
      omega arith
    where
      apart : (x : ℕ) → x < n → (eqb x i && is_in x told) ≡ false
      apart x q = bool_cases (eqb x i)
          (λ t. let r : is_in x told ≡ false = ap (λ (k : ℕ). is_in k told) (eqb-true x i t) ∙ e in rw (t, r))
          (λ t. rw t)

  room : (told : List ℕ) (j : ℕ) → j < n → is_in j told ≡ false → told_of told < n
  room told j h e = let g = grows told j h e in let w = count_within (λ x. is_in x (j ∷ told)) n in omega arith

module _ (first : ℕ → Option ℕ) (bad : ℕ → Bool) where
  all_append : (done xs ys : List ℕ) → AllAfter first bad done xs → AllAfter first bad (done ++ xs) ys → AllAfter first bad done (xs ++ ys)
  all_append done [] ys p q = subst (λ (d : List ℕ). AllAfter first bad d ys) (append-nil done) q
  all_append done (x ∷ xs) ys p q =
      (p.0, all_append (done ++ x ∷ []) xs ys p.1 (subst (λ (d : List ℕ). AllAfter first bad d ys) (moved done) q))
    where
      moved : (d : List ℕ) → d ++ x ∷ xs ≡ (d ++ x ∷ []) ++ xs
      moved [] = refl
      moved (y ∷ d) = ap (λ (l : List ℕ). y ∷ l) (moved d)

  leads_on_lem : {i j k : ℕ} → Leads first i k → first k ≡ Some j → Leads first i j
  leads_on_lem here e = on e here
  leads_on_lem (on f l) e = on f (leads_on_lem l e)

  module _ (naming : ℕ → Bool) (n : ℕ) (bounded : (i j : ℕ) → first i ≡ Some j → j < n) where
    -- rows that count as told were told, or are on the way to row i
    abbrev Known : (told done : List ℕ) → ℕ → Type 0
    Known told done i = (x : ℕ) → is_in x told ≡ true → (is_in x done ≡ true) ⊎ Leads first x i

    -- rows that aren't good and name none were told
    abbrev Base : List ℕ → Type 0
    Base done = (j : ℕ) → j < n → bad j ≡ true → naming j ≡ false → is_in j done ≡ true

    known_on : (told done : List ℕ) (i : ℕ) → Known told done i → Known (i ∷ told) done i
    known_on told done i k x e = bool_cases (eqb x i)
        (λ t. inr (subst (λ (z : ℕ). Leads first x z) (eqb-true x i t) here))
        (λ t. k x (subst (λ (s : Bool). (s || is_in x told) ≡ true) t e))

    known_next : (told done : List ℕ) (i j : ℕ) → first i ≡ Some j → Known told done i → Known told done j
    known_next told done i j f k x e = go (k x e)
      where
        go : (is_in x done ≡ true) ⊎ Leads first x i → (is_in x done ≡ true) ⊎ Leads first x j
        go (inl q) = inl q
        go (inr l) = inr (leads_on_lem l f)

    -- a row that wasn't told is told on its own way, where there are steps left
    there : (steps : ℕ) (told : List ℕ) (j : ℕ) → 1 ≤ steps → naming j ≡ true → is_in j told ≡ false → is_in j (way_to first naming steps told j) ≡ true
    there zero told j h e f = absurd (omega arith)
    there (suc s) told j h e f = times_in_lem j (way_to first naming (suc s) told j) (way_there first naming s told j e f)

    after_one : (steps : ℕ) (told done : List ℕ) (i j : ℕ) → first i ≡ Some j → n ≤ steps + told_of n (i ∷ told) → Known told done i → Base done → bad j ≡ true
        → (is_in j (done ++ way_to first naming steps (i ∷ told) j) ≡ true) ⊎ Leads first j i
    after_one steps told done i j f m k b e = bool_cases (naming j) named (λ t. inl (in_front j done _ (b j (bounded i j f) e t)))
      where
        was : (is_in j done ≡ true) ⊎ Leads first j i → (is_in j (done ++ way_to first naming steps (i ∷ told) j) ≡ true) ⊎ Leads first j i
        was (inl q) = inl (in_front j done _ q)
        was (inr l) = inr l

        named : naming j ≡ true → (is_in j (done ++ way_to first naming steps (i ∷ told) j) ≡ true) ⊎ Leads first j i
        named t = bool_cases (is_in j (i ∷ told))
            (λ u. was (known_on told done i k j u))
            (λ u. let r = room n (i ∷ told) j (bounded i j f) u in inl (in_back j done _ (there steps (i ∷ told) j (omega arith) t u)))

    abbrev Way : (steps : ℕ) → (told done : List ℕ) → ℕ → Type 0
    Way steps told done i = AllAfter first bad done (way_to first naming steps told i)

    way_step : (steps : ℕ) (told done : List ℕ) (i : ℕ) → i < n → n ≤ suc steps + told_of n told → Known told done i → Base done
        → ((j : ℕ) → j < n → n ≤ steps + told_of n (i ∷ told) → Known (i ∷ told) done j → Way steps (i ∷ told) done j)
        → Way (suc steps) told done i
    unfolding way_to
    way_step steps told done i h m k b r = bool_cases (naming i && not (is_in i told)) due (λ e. rw e tt)
      where
        new : (naming i && not (is_in i told)) ≡ true → is_in i told ≡ false
        new e = bool_cases (is_in i told) (λ t. absurd (no (naming i) (subst (λ (s : Bool). (naming i && not s) ≡ true) t e))) (λ t. t)
          where
            no : (s : Bool) → (s && false) ≡ true → ⊥
            no true q = let c : ◌≡◌ {A = ℕ} 0 1 = ap flag q in omega arith
            no false q = let c : ◌≡◌ {A = ℕ} 0 1 = ap flag q in omega arith

        more : (naming i && not (is_in i told)) ≡ true → n ≤ steps + told_of n (i ∷ told)
        more e = let g = grows n told i h (new e) in omega arith

        both : (naming i && not (is_in i told)) ≡ true → (c : Option ℕ) → first i ≡ c
            → AllAfter first bad done (on_a_row (way_to first naming steps (i ∷ told)) c)
            × ((j : ℕ) → first i ≡ Some j → bad j ≡ true → (is_in j (done ++ on_a_row (way_to first naming steps (i ∷ told)) c) ≡ true) ⊎ Leads first j i)
        both e (Some j) f = (
          r j (bounded i j f) (more e) (known_next (i ∷ told) done i j f (known_on told done i k)),
          λ l g q. let z : j ≡ l = cc in
              subst (λ (s : ℕ). (is_in s (done ++ way_to first naming steps (i ∷ told) j) ≡ true) ⊎ Leads first s i) z
              (after_one steps told done i j f (more e) k b (ap bad z ∙ q)),
        )
        both e None f = (tt, λ l g q. absurd (let c : ◌≡◌ {A = ℕ} 0 1 = cc in omega arith))

        due : (naming i && not (is_in i told)) ≡ true
            → AllAfter first bad done (cond (naming i && not (is_in i told)) (on_a_row (way_to first naming steps (i ∷ told)) (first i) ++ i ∷ []) [])
        due e =
            let p = both e (first i) refl in
            rw e (all_append done (on_a_row (way_to first naming steps (i ∷ told)) (first i)) (i ∷ []) p.0 (p.1, tt))

    way_after : (steps : ℕ) (told done : List ℕ) (i : ℕ) → i < n → n ≤ steps + told_of n told → Known told done i → Base done → Way steps told done i
    unfolding way_to
    way_after zero told done i h m k b = tt
    way_after (suc steps) told done i h m k b = way_step steps told done i h m k b (λ j q l g. way_after steps (i ∷ told) done j q l g b)

    told_after : (done : List ℕ) → Base done → (m : ℕ) → m ≤ n → AllAfter first bad done (told_before first naming n m)
    unfolding told_before
    told_after done b zero h = tt
    told_after done b (suc m) h =
        all_append done (told_before first naming n m) (way_to first naming n (told_before first naming n m) m) (told_after done b m (omega arith))
        (way_after n (told_before first naming n m) (done ++ told_before first naming n m) m h (omega arith)
        (λ x e. inl (in_back x done (told_before first naming n m) e))
        (λ j q e t. in_front j done (told_before first naming n m) (b j q e t)))

-- a row that isn't good and doesn't name is of the first or the second turn
turns : (v : ℕ) → ltb 0 (turn_of v) ≡ true → eqb (turn_of v) 3 ≡ false → (eqb (turn_of v) 1 ≡ true) ⊎ (eqb (turn_of v) 2 ≡ true)
turns v =
    turn_cases (λ (t : ℕ). ltb 0 t ≡ true → eqb t 3 ≡ false → (eqb t 1 ≡ true) ⊎ (eqb t 2 ≡ true)) v
    (λ e f. absurd (let z : 0 ≡ 1 = ap flag e in omega arith))
    (λ e f. inl refl)
    (λ e f. inr refl)
    (λ e f. absurd (let z : 1 ≡ 0 = ap flag f in omega arith))

module _ (halves bytes cells : List ℕ) (n : ℕ) where
  -- the rows of reasons 1 to 8, 13 and 14, and those of 9, 10 and 12
  abbrev others : List ℕ
  others = all_from (in_turn cells 1) 0 n ++ all_from (in_turn cells 2) 0 n

  -- a row isn't good
  abbrev is_bad : ℕ → Bool
  is_bad j = ltb 0 (turn_of (get_or cells j 0))

  -- told after these, a row of reason 11 comes after the row that it names, unless that one leads back to it
  pub cause_first : AllAfter (first_cause halves bytes cells n) is_bad others (told_before (first_cause halves bytes cells n) (in_turn cells 3) n n)
  cause_first =
      told_after (first_cause halves bytes cells n) is_bad (in_turn cells 3) n
      (λ i j e. let q = first_below (points_to halves bytes cells i) 0 n j (sym e) in omega arith)
      others base n (omega arith)
    where
      among : (t j : ℕ) → j < n → in_turn cells t j ≡ true → is_in j (all_from (in_turn cells t) 0 n) ≡ true
      among t j h e =
          let z = times_inside (in_turn cells t) j 0 n (omega arith) (omega arith) in
          let one : flag (in_turn cells t j) ≡ 1 = rw e in
          times_in_lem j (all_from (in_turn cells t) 0 n) (omega arith)

      base : (j : ℕ) → j < n → is_bad j ≡ true → in_turn cells 3 j ≡ false → is_in j others ≡ true
      base j h e f = go (turns (get_or cells j 0) e f)
        where
          go : (in_turn cells 1 j ≡ true) ⊎ (in_turn cells 2 j ≡ true) → is_in j others ≡ true
          go (inl q) = in_front j (all_from (in_turn cells 1) 0 n) (all_from (in_turn cells 2) 0 n) (among 1 j h q)
          go (inr q) = in_back j (all_from (in_turn cells 1) 0 n) (all_from (in_turn cells 2) 0 n) (among 2 j h q)
