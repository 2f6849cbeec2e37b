-- The same values, one occurrence after the other.
use Rattle.std.specs.Prelude.{ℕ, ◌≡◌, refl, true, false, cond, ◌||◌, List, [], ◌∷◌, eqb, ℤ, pos}
use Rattle.outcomes.specs.Outcome.{Outcome, refused, answer}
use Rattle.announced.specs.Announced.{raised, violation, after_reading}
use Rattle.severity.specs.declared.Severity.{Severity}
use Rattle.severity.specs.declared.Severity.TheVariants.{Soft}
use Rattle.announced.specs.declared.Progress.{Progress}
use Rattle.occurrences.specs.declared.Pass.{Pass}

-- after a value that is refused: 30 is off its curve, 31 out of range
unfoldable pub after_refusal : (number : ℕ) → Pass → Pass
after_refusal n pass = record { progress = pass.progress; off = pass.off || eqb n 30; beyond = pass.beyond || eqb n 31 }

unfoldable pub after_value : (nbchck : ℕ) → (ℤ → Severity) → Outcome ℤ → Pass → Pass
after_value nbchck severity (answer z) pass =
    record { progress = after_reading nbchck (severity z) pass.progress; off = pass.off; beyond = pass.beyond }
after_value nbchck severity (refused n place) pass = after_refusal n pass

unfoldable pub after_values : (nbchck : ℕ) → (ℤ → Severity) → List (Outcome ℤ) → Pass → Pass
after_values nbchck severity [] pass = pass
after_values nbchck severity (value ∷ later) pass = after_values nbchck severity later (after_value nbchck severity value pass)

-- 01: "then 30, then 31"
unfoldable pub ended : Pass → Outcome Progress
ended pass = cond pass.off (refused 30 0) (cond pass.beyond (refused 31 0) (answer pass.progress))

-- a 31 and then a 30: both are kept, and 7, which is soft, still counts
abbrev start : Pass
start = record { progress = record { run = 0; announced = 0 }; off = false; beyond = false }

abbrev end : Pass
end = after_values 1 (λ z. Soft) (refused 31 0 ∷ answer (pos 7) ∷ refused 30 0 ∷ []) start

pub record Examples : Type 0 where
  pub both : end ≡ record { progress = record { run = 1; announced = 1 }; off = true; beyond = true }
  pub off_first : ended end ≡ refused 30 0

pub examples : Examples
unfolding ended after_values after_value after_refusal after_reading violation raised
examples = record { both = refl; off_first = refl }
