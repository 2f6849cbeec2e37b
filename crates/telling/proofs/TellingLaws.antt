-- What an answer in plain numbers holds, and what is written of it.
use mathlib.Core.Path.{◌≡◌, refl, sym, ap, ◌∙◌}
use mathlib.Core.List.{List, [], ◌∷◌}
use Prim.Native.Nat.{ℕ, zero, suc, ◌^◌, ◌<◌, ◌+◌, ◌/◌, ◌%◌}
use native.Mathlib.Numerals.{add-one}
use native.Mathlib.Omega.{arith}
use lib.IntN.{ℤ, pos}
use lib.ListN.{length, take, get_or, set}
use Rattle.outcomes.specs.Outcome.{Outcome, answer}
use Rattle.outcomes.specs.Refusals.{refusal_number, refusal_place, refused_by}
use Rattle.outcomes.specs.declared.Refusal.{Refusal}
use Rattle.telling.specs.Answers.{Plain, refused_with, with_these_values, plain_of, code, written}

-- a refusal's number and its place, which crate refusal_places shows to be below 2 ^ 32, are read back from its code
pub read_back : (number place : ℕ) → place < 2 ^ 32 → (code number place / 2 ^ 32 ≡ number) × (code number place % 2 ^ 32 ≡ place)
unfolding code
read_back number place h = (omega arith, omega arith)

next : (i : ℕ) (xs vs : List ℤ) → i < length vs → set (written xs (take i vs)) i (get_or vs i (pos 0)) ≡ written xs (take (suc i) vs)
unfolding written
next i xs [] h = absurd (omega arith)
next zero [] (v ∷ vs) h = refl
next zero (x ∷ xs) (v ∷ vs) h = refl
next (suc i) [] (v ∷ vs) h = refl
next (suc i) (x ∷ xs) (v ∷ vs) h = ap (λ (ys : List ℤ). v ∷ ys) (next i xs vs (omega arith))

-- one value more
pub written_next : (i : ℕ) (xs vs : List ℤ) {ys : List ℤ} → ys ≡ written xs (take i vs) → i < length vs
    → set ys i (get_or vs i (pos 0)) ≡ written xs (take (i + 1) vs)
written_next i xs vs e h = rw (e, add-one) (next i xs vs h)

module _ {A : Type 0} (values_of : A → List ℤ) {o : Outcome A} {p : Plain} where
  pub plain_refused : (refusal : Refusal) → o ≡ refused_by refusal → p ≡ refused_with (refusal_number refusal) (refusal_place refusal) → p ≡ plain_of values_of o
  unfolding plain_of refused_by
  plain_refused refusal e q = rw e q

  pub plain_values : (a : A) {zs : List ℤ} → o ≡ answer a → p ≡ with_these_values zs → zs ≡ values_of a → p ≡ plain_of values_of o
  unfolding plain_of
  plain_values a e q w = q ∙ ap with_these_values w ∙ sym (ap (plain_of values_of) e)

-- values by the case of what they are of
pub with_values : {B : Type 0} (values_of : B → List ℤ) {x y : B} {p : Plain} {zs : List ℤ} → x ≡ y → p ≡ with_these_values zs → zs ≡ values_of y
    → p ≡ with_these_values (values_of x)
with_values values_of e q w = q ∙ ap with_these_values (w ∙ sym (ap values_of e))
