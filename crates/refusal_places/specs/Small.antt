-- The place of a refusal, and how large it is.
use Rattle.std.specs.Prelude.{ℕ, ◌^◌, ◌<◌, ◌≡◌, refl}
use Rattle.outcomes.specs.Outcome.{Outcome, refused, answer}

-- 01: "returns number and place"; 0 where there is no refusal
unfoldable pub place_in : {A : Type 0} → Outcome A → ℕ
place_in (refused number place) = place
place_in (answer a) = 0

-- a place that has room beside its number in a word of 64 bits
pub record Small {A : Type 0} (o : Outcome A) : Type 0 where
  pub below : place_in o < 2 ^ 32

pub example : place_in {A = ℕ} (refused 28 14) ≡ 14
unfolding place_in
example = refl
