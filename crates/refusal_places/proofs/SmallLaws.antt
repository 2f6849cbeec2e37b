-- Small places, step by step.
use mathlib.Core.Path.{◌≡◌, refl, sym, subst}
use Prim.Native.Nat.{ℕ, ◌^◌, ◌<◌}
use native.Mathlib.Omega.{arith}
use Rattle.outcomes.specs.Outcome.{Outcome, refused, answer, and_then}
use Rattle.refusal_places.specs.Small.{place_in, Small}

pub small_answer : {A : Type 0} (a : A) → Small (answer a)
unfolding place_in
small_answer a = record { below = omega arith }

-- 01: "else 0"
pub no_place : {A : Type 0} (number : ℕ) → Small {A = A} (refused number 0)
unfolding place_in
no_place number = record { below = omega arith }

pub small_place : {A : Type 0} (number : ℕ) {place : ℕ} → place < 2 ^ 32 → Small {A = A} (refused number place)
unfolding place_in
small_place number h = record { below = h }

pub small_then : {A B : Type 0} (o : Outcome A) (f : A → Outcome B) → Small o → ((a : A) → o ≡ answer a → Small (f a)) → Small (and_then o f)
unfolding place_in and_then
small_then (refused number place) f h k = record { below = h.below }
small_then (answer a) f h k = k a refl

pub small_same : {A : Type 0} {o q : Outcome A} → o ≡ q → Small q → Small o
small_same {A} e h = subst (λ (x : Outcome A). Small x) (sym e) h
