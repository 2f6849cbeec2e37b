-- What a function returns and writes to the eight places of an answer, by an answer in plain numbers.
use Rattle.std.specs.Prelude.{ℕ, ◌+◌, ◌*◌, ◌^◌, ◌≡◌, refl, List, [], ◌∷◌, ℤ, pos, negsuc, take}
use Rattle.outcomes.specs.Outcome.{Outcome, refused, answer}
use Rattle.telling.specs.declared.Telling.{Telling}

-- 01: "A refusal writes nothing and returns number and place"; with values, both are 0
pub record Plain : Type 0 where
  pub number : ℕ
  pub place : ℕ
  pub values : List ℤ

abbrev pub refused_with : (number place : ℕ) → Plain
refused_with number place = record { number = number; place = place; values = [] }

abbrev pub with_these_values : List ℤ → Plain
with_these_values zs = record { number = 0; place = 0; values = zs }

unfoldable pub plain_of : {A : Type 0} → (values_of : A → List ℤ) → Outcome A → Plain
plain_of values_of (refused number place) = refused_with number place
plain_of values_of (answer a) = with_these_values (values_of a)

unfoldable pub told_plainly : Telling → Plain
told_plainly t = record { number = t.number; place = t.place; values = take t.count t.values }

-- number and place as one number: 0 with values. Every place is below 2 ^ 32 (crate refusal_places),
-- so both are read back from it (`read_back`)
unfoldable pub code : (number place : ℕ) → ℕ
code number place = number * 2 ^ 32 + place

-- the values in the first places, and the others as they were
unfoldable pub written : (places zs : List ℤ) → List ℤ
written places [] = places
written [] (z ∷ zs) = []
written (x ∷ places) (z ∷ zs) = z ∷ written places zs

-- what is promised of a function's result and of the answer's places
pub record Told (p : Plain) (before after : List ℤ) (r : ℕ) : Type 0 where
  pub result : r ≡ code p.number p.place
  pub places : after ≡ written before p.values

-- of four places that held 7
abbrev sevens : List ℤ
sevens = pos 7 ∷ pos 7 ∷ pos 7 ∷ pos 7 ∷ []

abbrev one_value : ℤ → List ℤ
one_value z = pos 0 ∷ z ∷ []

pub record Examples : Type 0 where
  -- refusal 28 at byte 13
  pub leaves : plain_of one_value (refused 28 13) ≡ record { number = 28; place = 13; values = [] }
  pub result : code 28 13 ≡ 120259084301
  pub untouched : written sevens [] ≡ sevens
  -- 0 and -1
  pub integer : plain_of one_value (answer (negsuc 0)) ≡ record { number = 0; place = 0; values = pos 0 ∷ negsuc 0 ∷ [] }
  pub none : code 0 0 ≡ 0
  pub stored : written sevens (pos 0 ∷ negsuc 0 ∷ []) ≡ pos 0 ∷ negsuc 0 ∷ pos 7 ∷ pos 7 ∷ []

pub examples : Examples
unfolding plain_of code written
examples = record { leaves = refl; result = refl; untouched = refl; integer = refl; none = refl; stored = refl }
