-- How a reading changes run and announced.
use Rattle.std.specs.Prelude.{ℕ, ◌+◌, min, ◌≡◌, refl, cond, List, [], ◌∷◌, leb}
use Rattle.severity.specs.declared.Severity.{Severity}
use Rattle.severity.specs.declared.Severity.TheVariants.{Within, Soft, Hard}
use Rattle.announced.specs.declared.Progress.{Progress}

-- 01: "A violation raises run, at most to 99"
unfoldable pub raised : ℕ → ℕ
raised run = min (run + 1) 99

-- 01: "from NBCHCK on, announced is that severity, before it announced stays"
unfoldable pub violation : (nbchck level : ℕ) → Progress → Progress
violation nbchck level progress =
    record { run = raised progress.run; announced = cond (leb nbchck (raised progress.run)) level progress.announced }

-- 01: "announced (0 within, 1 soft, 2 hard)"; "Within sets run and announced to 0"
unfoldable pub after_reading : (nbchck : ℕ) → Severity → Progress → Progress
after_reading nbchck Within progress = record { run = 0; announced = 0 }
after_reading nbchck Soft progress = violation nbchck 1 progress
after_reading nbchck Hard progress = violation nbchck 2 progress

-- 01: "Occurrences go in order"
unfoldable pub after_readings : (nbchck : ℕ) → List Severity → Progress → Progress
after_readings nbchck [] progress = progress
after_readings nbchck (s ∷ later) progress = after_readings nbchck later (after_reading nbchck s progress)

abbrev progress_at : (run announced : ℕ) → Progress
progress_at first second = record { run = first; announced = second }

pub record Examples : Type 0 where
  -- with NBCHCK 2 the first violation isn't announced, and the second is
  pub first : after_readings 2 (Soft ∷ []) (progress_at 0 0) ≡ progress_at 1 0
  pub second : after_readings 2 (Soft ∷ Hard ∷ []) (progress_at 0 0) ≡ progress_at 2 2
  -- hard may become soft
  pub softer : after_readings 2 (Soft ∷ []) (progress_at 99 2) ≡ progress_at 99 1
  -- one within ends the run
  pub ended : after_readings 2 (Hard ∷ Within ∷ Hard ∷ []) (progress_at 7 1) ≡ progress_at 1 0

pub examples : Examples
unfolding after_readings after_reading violation raised
examples = record { first = refl; second = refl; softer = refl; ended = refl }
