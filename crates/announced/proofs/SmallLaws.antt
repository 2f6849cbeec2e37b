-- Run and announced stay small.
use mathlib.Core.List.{List, [], ◌∷◌}
use Prim.Native.Nat.{ℕ, ◌+◌, ◌≤◌, min}
use native.Mathlib.Omega.{arith}
use lib.Dec.{leb}
use Rattle.laws.proofs.Cases.{cond_cases}
use Rattle.announced.specs.Announced.{raised, violation, after_reading, after_readings}
use Rattle.severity.specs.declared.Severity.{Severity}
use Rattle.severity.specs.declared.Severity.TheVariants.{Within, Soft, Hard}
use Rattle.announced.specs.declared.Progress.{Progress}

pub record Small (progress : Progress) : Type 0 where
  pub run : progress.run ≤ 99
  pub announced : progress.announced ≤ 2

module _ (nbchck : ℕ) where
  violation_small : (level : ℕ) (progress : Progress) → level ≤ 2 → Small progress → Small (violation nbchck level progress)
  unfolding violation raised
  violation_small level progress h small =
      record { run = omega arith; announced = cond_cases (λ (n : ℕ). n ≤ 2) (leb nbchck (min (progress.run + 1) 99)) (λ e. h) (λ e. small.announced) }

  reading_small : (severity : Severity) (progress : Progress) → Small progress → Small (after_reading nbchck severity progress)
  unfolding after_reading
  reading_small Within progress small = record { run = omega arith; announced = omega arith }
  reading_small Soft progress small = violation_small 1 progress (omega arith) small
  reading_small Hard progress small = violation_small 2 progress (omega arith) small

  -- whatever the severities of the readings
  pub readings_small : (severities : List Severity) (progress : Progress) → Small progress → Small (after_readings nbchck severities progress)
  unfolding after_readings
  readings_small [] progress small = small
  readings_small (s ∷ later) progress small = readings_small later (after_reading nbchck s progress) (reading_small s progress small)
