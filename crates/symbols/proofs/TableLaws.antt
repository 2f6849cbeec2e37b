-- What is found in a table: a symbol under its id, and nothing else.
use mathlib.Core.Path.{◌≡◌, refl, ap, sym, ◌∙◌}
use mathlib.Core.Bool.{Bool, true, false}
use mathlib.Core.List.{List}
use Prim.Native.Nat.{ℕ, zero, suc, ◌+◌, ◌*◌, ◌%◌, ◌-◌, ◌≤◌, ◌<◌}
use native.Mathlib.Omega.{arith}
use native.Mathlib.Decide.{ℕ_discrete}
use lib.ListN.{get_or}
use Rattle.symbols.specs.declared.Symbol.{Symbol}
use Rattle.symbols.specs.Symbols.{same_symbol}
use Rattle.symbols.specs.Arrays.{symbol_at, bucket_of, heads, link_from, turned}
use Rattle.symbols.specs.Searches.{follow, followed, sought, Table}
use Rattle.symbols.proofs.SameLaws.{same_is, bucket_below}
use Rattle.symbols.proofs.FollowLaws.{step_none, step_here, step_on}

module _ (words links : List ℕ) (n : ℕ) (t : Table words links n) where
  abbrev at : ℕ → ℕ
  at place = get_or links place 0

  -- a place that a search comes to after so many symbols: its link leads nowhere, or to a later symbol
  pub record Reached (before place : ℕ) : Type 0 where
    pub few : before ≤ n
    pub within : at place ≤ n
    pub rises : (at place ≡ 0 → ⊥) → before < at place
    -- it is no link of a symbol that isn't there
    pub known : place < heads + 2 * n

  pub reached_first : (k : Symbol) → Reached 0 (bucket_of k)
  reached_first k =
      let b = bucket_below k in
      record { few = omega arith; within = t.first (bucket_of k) b; rises = λ z. omega (arith, z); known = omega arith }

  pub reached_next : {before place : ℕ} → Reached before place → (at place ≡ 0 → ⊥) → (trail : Symbol) → Reached (at place) (link_from (at place - 1) trail)
  reached_next {before} {place} w z trail =
      let i : ℕ = at place - 1 in
      let h : at place - 1 < n = omega (arith, w.within, z) in
      let b : trail.a % 2 < 2 = omega arith in
      record {
        few = w.within;
        within = t.next (at place - 1) (trail.a % 2) h b;
        rises = λ y. omega (arith, t.later (at place - 1) (trail.a % 2) h b y, z);
        known = omega arith;
      }

  module _ (k : Symbol) where
    -- what is found is the key
    sound_from : (steps : ℕ) (trail : Symbol) (before place : ℕ) → Reached before place → (i : ℕ) → (follow words links k steps trail place).at ≡ i + 1
        → (i < n) × (symbol_at words i ≡ k)
    unfolding follow
    sound_from zero trail before place w i e = absurd (omega arith)
    sound_from (suc steps) trail before place w i e = go (ℕ_discrete (at place) 0)
        (λ z q. sound_from steps (turned trail) (at place) (link_from (at place - 1) trail) (reached_next w z trail) i q)
      where
        Rest : Type 0
        Rest = (at place ≡ 0 → ⊥) → (follow words links k steps (turned trail) (link_from (at place - 1) trail)).at ≡ i + 1 → (i < n) × (symbol_at words i ≡ k)

        some : Rest → (at place ≡ 0 → ⊥) → (b : Bool) → same_symbol k (symbol_at words (at place - 1)) ≡ b → (i < n) × (symbol_at words i ≡ k)
        some rest z true q =
            let r : at place ≡ i + 1 = sym (ap (λ x. x.at) (step_here words links k steps trail place z q)) ∙ e in
            let s : at place - 1 ≡ i = omega arith in
            (omega (arith, w.within), ap (symbol_at words) (sym s) ∙ sym (same_is k (symbol_at words (at place - 1)) q))
        some rest z false q = rest z (sym (ap (λ x. x.at) (step_on words links k steps trail place z q)) ∙ e)

        go : Dec (at place ≡ 0) → Rest → (i < n) × (symbol_at words i ≡ k)
        go (yes z) rest = let r : 0 ≡ i + 1 = sym (ap (λ x. x.at) (step_none words links k steps trail place z)) ∙ e in absurd (omega arith)
        go (no z) rest = some rest z (same_symbol k (symbol_at words (at place - 1))) refl

    pub sound : (i : ℕ) → sought words links k ≡ i + 1 → (i < n) × (symbol_at words i ≡ k)
    unfolding followed
    sound i e = sound_from 65536 k 0 (bucket_of k) (reached_first k) i e

    -- a key that is a symbol is found
    pub complete : (i : ℕ) → i < n → symbol_at words i ≡ k → sought words links k ≡ i + 1
    complete i h e = ap (sought words links) (sym e) ∙ t.finds i h

    -- a search in vain ends at a link that leads nowhere, and not for want of steps
    pub record Ended (place : ℕ) : Type 0 where
      pub empty : at place ≡ 0
      pub known : place < heads + 2 * n

    ended_from : (steps : ℕ) (trail : Symbol) (before place : ℕ) → Reached before place → 65536 ≤ steps + before
        → (follow words links k steps trail place).at ≡ 0
        → Ended (follow words links k steps trail place).place
    ended_from zero trail before place w r e = absurd (omega (arith, w.few, t.few))
    ended_from (suc steps) trail before place w r e =
        go (ℕ_discrete (at place) 0) (λ z q. ended_from steps (turned trail) (at place) (link_from (at place - 1) trail) (reached_next w z trail)
        (omega (arith, w.rises z)) q)
      where
        Rest : Type 0
        Rest = (at place ≡ 0 → ⊥) → (follow words links k steps (turned trail) (link_from (at place - 1) trail)).at ≡ 0 → Ended
            (follow words links k steps (turned trail) (link_from (at place - 1) trail)).place

        some : Rest → (at place ≡ 0 → ⊥) → (b : Bool) → same_symbol k (symbol_at words (at place - 1)) ≡ b → Ended
            (follow words links k (suc steps) trail place).place
        some rest z true q = absurd (z (sym (ap (λ x. x.at) (step_here words links k steps trail place z q)) ∙ e))
        some rest z false q =
            let s = step_on words links k steps trail place z q in
            rw s (rest z (sym (ap (λ x. x.at) s) ∙ e))

        go : Dec (at place ≡ 0) → Rest → Ended (follow words links k (suc steps) trail place).place
        go (yes z) rest = rw (step_none words links k steps trail place z) (record { empty = z; known = w.known })
        go (no z) rest = some rest z (same_symbol k (symbol_at words (at place - 1))) refl

    pub ended : sought words links k ≡ 0 → Ended (followed words links k).place
    unfolding followed
    ended e = ended_from 65536 k 0 (bucket_of k) (reached_first k) (omega arith) e
