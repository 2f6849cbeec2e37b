-- Every row that isn't good is told, once, and no other row is.
use mathlib.Core.Path.{◌≡◌, refl, ap, ap₂, sym, subst, ◌∙◌}
use mathlib.Core.Bool.{Bool, true, false, not, cond, ◌&&◌, ◌||◌}
use mathlib.Core.List.{List, [], ◌∷◌, ◌++◌}
use mathlib.Core.Logic.{◌⊎◌, inl, inr}
use Prim.Native.Nat.{ℕ, zero, suc, ◌+◌, ◌≤◌, ◌<◌}
use native.Mathlib.Omega.{arith}
use lib.Dec.{eqb, ltb}
use lib.ListN.{get_or}
use borrow.Author.Tests.{eqb-true, eqb-false}
use Rattle.laws.specs.Prefix.{all_from, flag}
use Rattle.laws.proofs.Cases.{bool_cases, and_false}
use Rattle.std.specs.Prelude.{Option, Some, None}
use Rattle.pointing.specs.Pointing.{points_to}
use Rattle.row_order.specs.RowOrder.{turn_of, in_turn, first_cause, is_in, on_a_row, way_to, told_before, order_of, times_in}
use Rattle.row_order.proofs.TurnLaws.{turn_cases}
use Rattle.row_order.proofs.TellLaws.{first_below}

times_append : (x : ℕ) (a b : List ℕ) → times_in x (a ++ b) ≡ times_in x a + times_in x b
times_append x [] b = omega arith
times_append x (y ∷ a) b = let e = times_append x a b in omega arith

pub not_in : (x : ℕ) (a : List ℕ) → is_in x a ≡ false → times_in x a ≡ 0
not_in x [] e = refl
not_in x (y ∷ a) e = go (eqb x y) e (λ q. not_in x a q)
  where
    go : (t : Bool) → (t || is_in x a) ≡ false → (is_in x a ≡ false → times_in x a ≡ 0) → flag t + times_in x a ≡ 0
    go true e r = absurd (let c : 0 ≡ 1 = ap flag (sym e) in omega arith)
    go false e r = let z = r e in omega arith

is_in_lem : (x : ℕ) (a : List ℕ) → is_in x a ≡ true → 1 ≤ times_in x a
is_in_lem x [] e = absurd (let c : 0 ≡ 1 = ap flag e in omega arith)
is_in_lem x (y ∷ a) e = go (eqb x y) e (λ q. is_in_lem x a q)
  where
    go : (t : Bool) → (t || is_in x a) ≡ true → (is_in x a ≡ true → 1 ≤ times_in x a) → 1 ≤ flag t + times_in x a
    go true e r = omega arith
    go false e r = let z = r e in omega arith

-- of rows that pass, those outside are none of them
further : (x lo d : ℕ) → (x < lo) ⊎ (lo + suc d ≤ x) → (x < lo + 1) ⊎ (lo + 1 + d ≤ x)
further x lo d (inl h) = inl (omega arith)
further x lo d (inr h) = inr (omega arith)

apart : (x lo d : ℕ) → (x < lo) ⊎ (lo + suc d ≤ x) → eqb x lo ≡ false
apart x lo d o = bool_cases (eqb x lo) (λ e. absurd (no o (eqb-true x lo e))) (λ e. e)
  where
    no : (x < lo) ⊎ (lo + suc d ≤ x) → x ≡ lo → ⊥
    no (inl h) q = omega arith
    no (inr h) q = omega arith

times_outside : (passes : ℕ → Bool) (x lo d : ℕ) → (x < lo) ⊎ (lo + d ≤ x) → times_in x (all_from passes lo d) ≡ 0
unfolding all_from
times_outside passes x lo zero o = refl
times_outside passes x lo (suc d) o =
    let rest = times_outside passes x (lo + 1) d (further x lo d o) in
    bool_cases (passes lo) (λ e. rw (e, apart x lo d o, rest)) (λ e. rw (e, rest))

-- and those inside are once
inside_step : (passes : ℕ → Bool) (x lo d : ℕ)
    → (eqb x lo ≡ false → times_in x (all_from passes (lo + 1) d) ≡ flag (passes x)) → times_in x (all_from passes lo (suc d)) ≡ flag (passes x)
unfolding all_from
inside_step passes x lo d r = bool_cases (eqb x lo) here there
  where
    here : eqb x lo ≡ true → times_in x (all_from passes lo (suc d)) ≡ flag (passes x)
    here e =
        let q : x ≡ lo = eqb-true x lo e in
        let z : times_in x (all_from passes (lo + 1) d) ≡ 0 = times_outside passes x (lo + 1) d (inl (omega arith)) in
        bool_cases (passes lo)
        (λ t. let u : passes x ≡ true = ap passes q ∙ t in rw (t, u, e, z))
        (λ t. let u : passes x ≡ false = ap passes q ∙ t in rw (t, u, z))

    there : eqb x lo ≡ false → times_in x (all_from passes lo (suc d)) ≡ flag (passes x)
    there e = let z = r e in bool_cases (passes lo) (λ t. rw (t, e) (omega arith)) (λ t. rw (t, z))

pub times_inside : (passes : ℕ → Bool) (x lo d : ℕ) → lo ≤ x → x < lo + d → times_in x (all_from passes lo d) ≡ flag (passes x)
times_inside passes x lo zero l h = absurd (omega arith)
times_inside passes x lo (suc d) l h =
    inside_step passes x lo d (λ e. times_inside passes x (lo + 1) d (let q = eqb-false x lo e in omega arith) (omega arith))

and_true : (t : Bool) → (t && true) ≡ t
and_true true = refl
and_true false = refl

module _ (first : ℕ → Option ℕ) (naming : ℕ → Bool) where
  on_row : (way : ℕ → List ℕ) (x m : ℕ) → ((j : ℕ) → times_in x (way j) ≤ m) → (c : Option ℕ) → times_in x (on_a_row way c) ≤ m
  on_row way x m r (Some j) = r j
  on_row way x m r None = omega arith

  last_once : (told : List ℕ) (i x : ℕ) (s : Bool) → eqb x i ≡ s → (naming i && not (is_in i told)) ≡ true → (m : ℕ)
      → m ≤ flag (naming x && not (s || is_in x told)) → m + flag s ≤ flag (naming x && not (is_in x told))
  last_once told i x true q e m h =
      let r : x ≡ i = eqb-true x i q in
      let z : (naming x && not (is_in x told)) ≡ true = rw r e in
      let none : m ≤ 0 = subst (λ (t : Bool). m ≤ flag t) (and_false (naming x)) h in
      subst (λ (t : Bool). m + 1 ≤ flag t) (sym z) (omega arith)
  last_once told i x false q e m h = omega arith

  way_step : (steps : ℕ) (told : List ℕ) (i x : ℕ)
      → ((j : ℕ) → times_in x (way_to first naming steps (i ∷ told) j) ≤ flag (naming x && not (is_in x (i ∷ told))))
      → times_in x (way_to first naming (suc steps) told i) ≤ flag (naming x && not (is_in x told))
  unfolding way_to
  way_step steps told i x r = bool_cases (naming i && not (is_in i told)) due (λ e. rw e (omega arith))
    where
      due : (naming i && not (is_in i told)) ≡ true
          → times_in x (cond (naming i && not (is_in i told)) (on_a_row (way_to first naming steps (i ∷ told)) (first i) ++ i ∷ []) [])
          ≤ flag (naming x && not (is_in x told))
      due e =
          let all = times_append x (on_a_row (way_to first naming steps (i ∷ told)) (first i)) (i ∷ []) in
          let before = on_row (way_to first naming steps (i ∷ told)) x (flag (naming x && not (is_in x (i ∷ told)))) r (first i) in
          let some = last_once told i x (eqb x i) refl e (times_in x (on_a_row (way_to first naming steps (i ∷ told)) (first i))) before in
          rw e (omega arith)

  -- on the way to a row each row is told at most once, and none that was told
  way_once : (steps : ℕ) (told : List ℕ) (i x : ℕ) → times_in x (way_to first naming steps told i) ≤ flag (naming x && not (is_in x told))
  unfolding way_to
  way_once zero told i x = omega arith
  way_once (suc steps) told i x = way_step steps told i x (λ j. way_once steps (i ∷ told) j x)

  -- the row itself is told, unless it was
  pub way_there : (steps : ℕ) (told : List ℕ) (i : ℕ) → naming i ≡ true → is_in i told ≡ false → 1 ≤ times_in i (way_to first naming (suc steps) told i)
  unfolding way_to
  way_there steps told i e f =
      let d : (naming i && not (is_in i told)) ≡ true = rw (e, f) in
      let here : eqb i i ≡ true = bool_cases (eqb i i) (λ t. t) (λ t. absurd (eqb-false i i t refl)) in
      let all = times_append i (on_a_row (way_to first naming steps (i ∷ told)) (first i)) (i ∷ []) in
      let one : times_in i (i ∷ []) ≡ 1 = rw here in
      rw d (omega arith)

  -- one row more is come to
  once_step : (n m x : ℕ) (told : List ℕ) → times_in x told ≤ flag (naming x) → times_in x (told ++ way_to first naming n told m) ≤ flag (naming x)
  once_step n m x told was = bool_cases (is_in x told) old new
    where
      way : List ℕ
      way = way_to first naming n told m

      old : is_in x told ≡ true → times_in x (told ++ way) ≤ flag (naming x)
      old e =
          let all = times_append x told way in
          let s : (naming x && not (is_in x told)) ≡ false = rw e (and_false (naming x)) in
          let none : times_in x way ≤ 0 = subst (λ (t : Bool). times_in x way ≤ flag t) s (way_once n told m x) in
          omega arith

      new : is_in x told ≡ false → times_in x (told ++ way) ≤ flag (naming x)
      new e =
          let all = times_append x told way in
          let none = not_in x told e in
          let s : (naming x && not (is_in x told)) ≡ naming x = rw e (and_true (naming x)) in
          let now : times_in x way ≤ flag (naming x) = subst (λ (t : Bool). times_in x way ≤ flag t) s (way_once n told m x) in
          omega arith

  told_once : (n m x : ℕ) → times_in x (told_before first naming n m) ≤ flag (naming x)
  unfolding told_before
  told_once n zero x = omega arith
  told_once n (suc m) x = once_step n m x (told_before first naming n m) (told_once n m x)

  some_step : (n m x : ℕ) (told : List ℕ) → naming x ≡ true → (eqb x m ≡ false → 1 ≤ times_in x told) → 1 ≤ times_in x (told ++ way_to first naming (suc n) told m)
  some_step n m x told e was = bool_cases (eqb x m) here there
    where
      there : eqb x m ≡ false → 1 ≤ times_in x (told ++ way_to first naming (suc n) told m)
      there q = let s = was q in let a = times_append x told (way_to first naming (suc n) told m) in omega arith

      here : eqb x m ≡ true → 1 ≤ times_in x (told ++ way_to first naming (suc n) told m)
      here q =
          let r : m ≡ x = sym (eqb-true x m q) in
          let a = times_append x told (way_to first naming (suc n) told m) in
          bool_cases (is_in x told)
          (λ t. let s = is_in_lem x told t in omega arith)
          (λ t. let s : 1 ≤ times_in x (way_to first naming (suc n) told m) = rw r (way_there n told x e t) in omega arith)

  told_some : (n m x : ℕ) → x < m → naming x ≡ true → 1 ≤ times_in x (told_before first naming (suc n) m)
  unfolding told_before
  told_some n zero x h e = absurd (omega arith)
  told_some n (suc m) x h e =
      some_step n m x (told_before first naming (suc n) m) e (λ q. told_some n m x (let d = eqb-false x m q in omega arith) e)

  -- no row past the last is told
  module _ (n : ℕ) (bounded : (i j : ℕ) → first i ≡ Some j → j < n) (x : ℕ) (past : n ≤ x) where
    on_none : (way : ℕ → List ℕ) → ((j : ℕ) → j < n → times_in x (way j) ≡ 0) → (i : ℕ) (c : Option ℕ) → first i ≡ c → times_in x (on_a_row way c) ≡ 0
    on_none way r i (Some j) e = r j (bounded i j e)
    on_none way r i None e = refl

    within_step : (steps : ℕ) (told : List ℕ) (i : ℕ) → i < n → ((j : ℕ) → j < n → times_in x (way_to first naming steps (i ∷ told) j) ≡ 0)
        → times_in x (way_to first naming (suc steps) told i) ≡ 0
    unfolding way_to
    within_step steps told i h r = bool_cases (naming i && not (is_in i told)) due (λ e. rw e)
      where
        due : (naming i && not (is_in i told)) ≡ true
            → times_in x (cond (naming i && not (is_in i told)) (on_a_row (way_to first naming steps (i ∷ told)) (first i) ++ i ∷ []) []) ≡ 0
        due e =
            let all = times_append x (on_a_row (way_to first naming steps (i ∷ told)) (first i)) (i ∷ []) in
            let none = on_none (way_to first naming steps (i ∷ told)) r i (first i) refl in
            let other : eqb x i ≡ false = bool_cases (eqb x i) (λ t. absurd (let q = eqb-true x i t in omega arith)) (λ t. t) in
            let one : times_in x (i ∷ []) ≡ 0 = rw other in
            rw e (omega arith)

    way_within : (steps : ℕ) (told : List ℕ) (i : ℕ) → i < n → times_in x (way_to first naming steps told i) ≡ 0
    unfolding way_to
    way_within zero told i h = refl
    way_within (suc steps) told i h = within_step steps told i h (λ j q. way_within steps (i ∷ told) j q)

    told_within : (m : ℕ) → m ≤ n → times_in x (told_before first naming n m) ≡ 0
    unfolding told_before
    told_within zero h = refl
    told_within (suc m) h =
        let all = times_append x (told_before first naming n m) (way_to first naming n (told_before first naming n m) m) in
        let was = told_within m (omega arith) in
        let now = way_within n (told_before first naming n m) m h in
        omega arith

-- a row is in one turn, unless it is good
one_turn : (v : ℕ) → flag (eqb (turn_of v) 1) + (flag (eqb (turn_of v) 2) + flag (eqb (turn_of v) 3)) ≡ flag (ltb 0 (turn_of v))
one_turn v = turn_cases (λ (t : ℕ). flag (eqb t 1) + (flag (eqb t 2) + flag (eqb t 3)) ≡ flag (ltb 0 t)) v refl refl refl refl

module _ (halves bytes cells : List ℕ) (n x : ℕ) where
  abbrev named : ℕ → Bool
  named = in_turn cells 3

  abbrev first : ℕ → Option ℕ
  first = first_cause halves bytes cells n

  parted : times_in x (order_of halves bytes cells n)
      ≡ times_in x (all_from (in_turn cells 1) 0 n) + (times_in x (all_from (in_turn cells 2) 0 n) + times_in x (told_before first named n n))
  unfolding order_of
  parted =
      times_append x (all_from (in_turn cells 1) 0 n) (all_from (in_turn cells 2) 0 n ++ told_before first named n n)
      ∙ ap (λ (k : ℕ). times_in x (all_from (in_turn cells 1) 0 n) + k) (times_append x (all_from (in_turn cells 2) 0 n) (told_before first named n n))

  -- a row with a reason is told once
  pub told_exactly : x < n → times_in x (order_of halves bytes cells n) ≡ flag (ltb 0 (turn_of (get_or cells x 0)))
  told_exactly h =
      let a = times_inside (in_turn cells 1) x 0 n (omega arith) (omega arith) in
      let b = times_inside (in_turn cells 2) x 0 n (omega arith) (omega arith) in
      let c : times_in x (told_before first named n n) ≡ flag (named x) = third n refl in
      parted ∙ ap₂ ◌+◌ a (ap₂ ◌+◌ b c) ∙ one_turn (get_or cells x 0)
    where
      third : (k : ℕ) → n ≡ k → times_in x (told_before first named n n) ≡ flag (named x)
      third zero e = absurd (omega arith)
      third (suc k) e =
          let most = told_once first named n n x in
          bool_cases (named x)
          (λ t. let least : 1 ≤ times_in x (told_before first named n n) = subst (λ (s : ℕ). 1 ≤ times_in x (told_before first named s n)) (sym e)
          (told_some first named k n x h t) in
          let q : flag (named x) ≡ 1 = rw t in omega arith)
          (λ t. let q : flag (named x) ≡ 0 = rw t in omega arith)

  -- and no row past the last
  pub none_past : n ≤ x → times_in x (order_of halves bytes cells n) ≡ 0
  none_past h =
      let a = times_outside (in_turn cells 1) x 0 n (inr (omega arith)) in
      let b = times_outside (in_turn cells 2) x 0 n (inr (omega arith)) in
      let c = told_within first named n (λ i j e. let q = first_below (points_to halves bytes cells i) 0 n j (sym e) in omega arith) x h n (omega arith) in
      parted ∙ ap₂ ◌+◌ a (ap₂ ◌+◌ b c)
