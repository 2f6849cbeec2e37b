-- What a call answers: something, or a refusal with its number and its place.
use Rattle.std.specs.Prelude.{ℕ, ◌≡◌, refl}

-- 01: "Refused calls"
pub data Outcome (A : Type 0) : Type 0 where
  refused : (number place : ℕ) → Outcome A
  answer : A → Outcome A

-- what comes of an answer; a refusal stays
unfoldable pub and_then : {A B : Type 0} → Outcome A → (A → Outcome B) → Outcome B
and_then (refused number place) f = refused number place
and_then (answer a) f = f a

pub record Examples : Type 0 where
  pub on : and_then (answer 7) (λ (n : ℕ). answer n) ≡ answer 7
  pub not_on : and_then (refused 28 12) (λ (n : ℕ). answer n) ≡ refused 28 12

pub examples : Examples
unfolding and_then
examples = record { on = refl; not_on = refl }
