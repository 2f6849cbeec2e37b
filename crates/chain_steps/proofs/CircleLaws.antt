-- A chain that meets a row again without coming to z never comes to z.
use mathlib.Core.Path.{◌≡◌, refl, ap, sym, subst, ◌∙◌}
use mathlib.Core.Bool.{Bool, true, false, cond}
use mathlib.Core.List.{List}
use Prim.Native.Nat.{ℕ, zero, suc, ◌+◌, ◌-◌, ◌≤◌, ◌<◌}
use native.Mathlib.Omega.{arith}
use lib.Dec.{eqb}
use Rattle.laws.proofs.Cases.{false_of, false≢true}
use Rattle.chain_steps.specs.Chains.{no_row, row_after, comes_to}
use Rattle.chain_steps.proofs.ChainLaws.{comes_on}

module _ (next : List ℕ) (z : ℕ) where
  abbrev comes : ℕ → ℕ → Bool
  comes n i = comes_to next z n i

  -- row i is some steps after row p, and none of them comes to z
  pub record Passed (p i : ℕ) : Type 0 where
    pub steps : ℕ
    pub same : (k : ℕ) → comes_to next z (k + steps) p ≡ comes_to next z k i

  pub passed_here : (i : ℕ) → Passed i i
  passed_here i = record { steps = 0; same = λ k. ap (λ (m : ℕ). comes m i) (omega arith) }

  -- more steps come where fewer do
  comes_more : (n i : ℕ) → comes n i ≡ true → comes (suc n) i ≡ true
  unfolding comes_to
  comes_more zero i t = absurd (false≢true t)
  comes_more (suc n) i t = go (eqb (row_after next i) no_row) (eqb (row_after next i) z) (comes_more n (row_after next i)) t
    where
      go : (a b : Bool) {x y : Bool} → (x ≡ true → y ≡ true) → cond a false (cond b true x) ≡ true → cond a false (cond b true y) ≡ true
      go true b f t = t
      go false true f t = t
      go false false f t = f t

  comes_up : (d n i : ℕ) → comes n i ≡ true → comes (n + d) i ≡ true
  comes_up zero n i t = let e : n + 0 ≡ n = omega arith in rw e t
  comes_up (suc d) n i t = let e : n + suc d ≡ suc (n + d) = omega arith in rw e (comes_more (n + d) i (comes_up d n i t))

  -- a row met again after some steps
  module _ (p : ℕ) (w : Passed p p) (some : 0 < w.steps) where
    -- as many steps as one likes don't come to z
    record Many (n : ℕ) : Type 0 where
      taken : ℕ
      enough : n ≤ taken
      not_there : comes taken p ≡ false

    many : (n : ℕ) → Many n
    unfolding comes_to
    many zero = record { taken = 0; enough = omega arith; not_there = refl }
    many (suc n) = let m = many n in record { taken = m.taken + w.steps; enough = omega (arith, m.enough); not_there = w.same m.taken ∙ m.not_there }

    never : (n : ℕ) → comes n p ≡ false
    never n =
        let m = many n in
        let e : n + (m.taken - n) ≡ m.taken = omega (arith, m.enough) in
        false_of (comes n p) (λ t. false≢true (sym m.not_there ∙ subst (λ (k : ℕ). comes k p ≡ true) e (comes_up (m.taken - n) n p t)))

  -- row comes after row i
  module _ (i row : ℕ) (is : row ≡ row_after next i) (there : row ≡ no_row → ⊥) (other : row ≡ z → ⊥) where
    step : (k : ℕ) → comes (k + 1) i ≡ comes k row
    step k = sym (comes_on next z (k + 1) i (omega arith) row is there other) ∙ ap (λ (m : ℕ). comes m row) (omega arith)

    later : (p : ℕ) (w : Passed p i) (k : ℕ) → comes (k + (w.steps + 1)) p ≡ comes k row
    later p w k = ap (λ (m : ℕ). comes m p) (omega arith) ∙ w.same (k + 1) ∙ step k

    pub passed_on : (p : ℕ) → Passed p i → Passed p row
    passed_on p w = record { steps = w.steps + 1; same = later p w }

    pub comes_again : (p n : ℕ) → Passed p i → row ≡ p → 0 < n → false ≡ comes n i
    comes_again p n w e h =
        let v : Passed p p = record { steps = w.steps + 1; same = λ k. later p w k ∙ ap (comes k) e } in
        sym (never p v (omega arith) (n - 1))
        ∙ ap (comes (n - 1)) (sym e)
        ∙ comes_on next z n i h row is there other
