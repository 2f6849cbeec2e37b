-- With which numbers a call can be refused.
use mathlib.Core.Path.{◌≡◌, refl, sym, ap, ◌∙◌}
use mathlib.Core.Bool.{true, false}
use mathlib.Core.List.Memᴰ
use mathlib.Core.List.{List, ◌∷◌, ◌++◌}
use Prim.Native.Nat.{ℕ}
use native.Mathlib.Omega.{arith}
use lib.Dec.{eqb}
use Rattle.laws.specs.Lists.{any}
use Rattle.laws.proofs.Cases.{false≢true}
use Rattle.laws.proofs.Tests.{any_mem, any_witness}
use Rattle.outcomes.specs.Outcome.{Outcome, refused, answer, and_then}

-- the number of a refusal, 0 where there is none
abbrev pub number_in : {A : Type 0} → Outcome A → ℕ
number_in (refused number place) = number
number_in (answer a) = 0

-- it is one of these, if it is refused
abbrev pub Numbered : {A : Type 0} → List ℕ → Outcome A → Type 0
Numbered numbers o = any (eqb (number_in o)) (0 ∷ numbers) ≡ true

-- it isn't this one
abbrev pub Never : {A : Type 0} → ℕ → Outcome A → Type 0
Never number o = number_in o ≡ number → ⊥

pub never_one : {A : Type 0} (number : ℕ) (numbers : List ℕ) (o : Outcome A) → any (eqb number) (0 ∷ numbers) ≡ false
    → Numbered numbers o → Never number o
never_one number numbers o f h e = false≢true (sym f ∙ ap (λ (n : ℕ). any (eqb n) (0 ∷ numbers)) (sym e) ∙ h)

pub one_more : {A : Type 0} (numbers more : List ℕ) (o : Outcome A) → Numbered numbers o → Numbered (numbers ++ more) o
one_more numbers more o h =
    let w = any_witness (eqb (number_in o)) (0 ∷ numbers) h in
    any_mem (eqb (number_in o)) (Memᴰ.append_left more w.1) w.2

module _ {A B : Type 0} where
  pub one_then : (numbers : List ℕ) (o : Outcome A) (f : A → Outcome B) → Numbered numbers o → ((a : A) → o ≡ answer a → Numbered numbers (f a))
      → Numbered numbers (and_then o f)
  unfolding and_then
  one_then numbers (refused number place) f h k = h
  one_then numbers (answer a) f h k = k a refl

  pub never_then : (number : ℕ) (o : Outcome A) (f : A → Outcome B) → Never number o → ((a : A) → o ≡ answer a → Never number (f a))
      → Never number (and_then o f)
  unfolding and_then
  never_then number (refused n place) f h k = h
  never_then number (answer a) f h k = k a refl

  pub then_is : (o : Outcome A) (f : A → Outcome B) (a : A) → o ≡ answer a → and_then o f ≡ f a
  unfolding and_then
  then_is o f a e = ap (λ (x : Outcome A). and_then x f) e

  pub then_refused : (o : Outcome A) (f : A → Outcome B) (number place : ℕ) → o ≡ refused number place → and_then o f ≡ refused number place
  unfolding and_then
  then_refused o f number place e = ap (λ (x : Outcome A). and_then x f) e

  -- a refusal that isn't of the first step is of the second
  pub later : (number place : ℕ) (o : Outcome A) (f : A → Outcome B) → Never number o → and_then o f ≡ refused number place
      → (a : A) × (o ≡ answer a) × (f a ≡ refused number place)
  unfolding and_then
  later number place (refused n q) f h e = absurd (h (ap (λ (o : Outcome B). number_in o) e))
  later number place (answer a) f h e = (a, refl, e)

  -- where the second step always answers, a refusal is of the first
  pub first_only : (number place : ℕ) (o : Outcome A) (f : A → Outcome B) → ((a : A) → (b : B) × (f a ≡ answer b)) → and_then o f ≡ refused number place
      → o ≡ refused number place
  unfolding and_then
  first_only number place (refused n q) f h e = cc
  first_only number place (answer a) f h e = absurd (let w = (h a).1 in let z : ◌≡◌ {A = ℕ} 0 1 = cc in omega arith)

  -- an answer comes of an answer
  pub earlier : (o : Outcome A) (f : A → Outcome B) (b : B) → and_then o f ≡ answer b → (a : A) × (o ≡ answer a) × (f a ≡ answer b)
  unfolding and_then
  earlier (refused number place) f b e = absurd (let z : ◌≡◌ {A = ℕ} 0 1 = cc in omega arith)
  earlier (answer a) f b e = (a, refl, e)
