-- The links followed step by step, in any arrays.
use mathlib.Core.Path.{◌≡◌, ap, ap₂, sym, ◌∙◌}
use mathlib.Core.Bool.{true, false}
use mathlib.Core.List.{List}
use Prim.Native.Nat.{ℕ, suc, ◌-◌, ◌<◌}
use native.Mathlib.Omega.{arith}
use lib.ListN.{get_or}
use borrow.Author.Tests.{eq-eqb, ne_eqb}
use Rattle.symbols.specs.declared.Symbol.{Symbol}
use Rattle.symbols.specs.declared.Trace.{Trace}
use Rattle.symbols.specs.Symbols.{same_symbol}
use Rattle.symbols.specs.Arrays.{symbol_at, bucket_of, link_from, turned}
use Rattle.symbols.specs.Searches.{follow, followed}

module _ (words links : List ℕ) (k : Symbol) where
  abbrev at : ℕ → ℕ
  at place = get_or links place 0

  module _ (steps : ℕ) (trail : Symbol) (place : ℕ) where
    pub step_none : at place ≡ 0 → follow words links k (suc steps) trail place ≡ record { at = 0; place = place }
    unfolding follow
    step_none e = rw (eq-eqb (at place) 0 e)

    pub step_here : (at place ≡ 0 → ⊥) → same_symbol k (symbol_at words (at place - 1)) ≡ true → follow words links k
        (suc steps) trail place ≡ record { at = at place; place = place }
    unfolding follow
    step_here z e = rw (ne_eqb (at place) 0 z, e)

    pub step_on : (at place ≡ 0 → ⊥) → same_symbol k (symbol_at words (at place - 1)) ≡ false
        → follow words links k (suc steps) trail place ≡ follow words links k steps (turned trail) (link_from (at place - 1) trail)
    unfolding follow
    step_on z e = rw (ne_eqb (at place) 0 z, e)

  pub start : (place : ℕ) → place ≡ bucket_of k → follow words links k 65536 k place ≡ followed words links k
  unfolding followed
  start place e = ap (follow words links k 65536 k) e

  -- the same by what was read, with some steps left
  module _ (steps : ℕ) (trail : Symbol) (place : ℕ) (r : Trace) (inv : follow words links k steps trail place ≡ r) (some : 0 < steps) (x : ℕ)
      (is : x ≡ at place) where
    left : steps ≡ suc (steps - 1)
    left = omega arith

    whole : follow words links k (suc (steps - 1)) trail place ≡ r
    whole = ap (λ (s : ℕ). follow words links k s trail place) (sym left) ∙ inv

    pub none : x ≡ 0 → record { at = 0; place = place } ≡ r
    none e = sym (step_none (steps - 1) trail place (sym is ∙ e)) ∙ whole

    module _ (z : x ≡ 0 → ⊥) (s : Symbol) (q : s ≡ symbol_at words (x - 1)) where
      filled : at place ≡ 0 → ⊥
      filled e = z (is ∙ e)

      same : same_symbol k (symbol_at words (at place - 1)) ≡ same_symbol k s
      same = ap (λ (y : ℕ). same_symbol k (symbol_at words (y - 1))) (sym is) ∙ ap (same_symbol k) (sym q)

      pub here : same_symbol k s ≡ true → record { at = x; place = place } ≡ r
      here e = ap (λ (y : ℕ). record { at = y; place = place }) is ∙ sym (step_here (steps - 1) trail place filled (same ∙ e)) ∙ whole

      pub on : same_symbol k s ≡ false → (p : ℕ) → p ≡ link_from (x - 1) trail → (t : Symbol) → t ≡ turned trail → follow words links k (steps - 1) t p ≡ r
      on e p f t g =
          ap₂ (follow words links k (steps - 1)) g (f ∙ ap (λ (y : ℕ). link_from (y - 1) trail) is)
          ∙ sym (step_on (steps - 1) trail place filled (same ∙ e)) ∙ whole

  pub spent : (steps : ℕ) (trail : Symbol) (place : ℕ) (r : Trace) → follow words links k steps trail place ≡ r → steps ≡ 0
      → record { at = 0; place = place } ≡ r
  unfolding follow
  spent steps trail place r inv e = ap (λ (s : ℕ). follow words links k s trail place) (sym e) ∙ inv
