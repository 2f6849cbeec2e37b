-- What the values of a packet make of run and announced.
use Rattle.std.specs.Prelude.{ℕ, ◌≡◌, refl, Bool, true, false, List, [], ◌∷◌, map, ℤ, pos}
use Rattle.name_bytes.specs.declared.Name.{Name}
use Rattle.rows.specs.declared.records.OcfRow.{OcfRow}
use Rattle.outcomes.specs.Outcome.{Outcome, refused, answer, and_then}
use Rattle.outcomes.specs.Values.{Value, number}
use Rattle.database.specs.Rows.{Rows}
use Rattle.parameters.specs.Located.{Located}
use Rattle.curve_values.specs.Scale.{Scale, as_read, on_scale}
use Rattle.severity.specs.Violations.{is_violated}
use Rattle.severity.specs.Checks.{Check, violates, severity_in}
use Rattle.announced.specs.Announced.{raised, violation, after_reading, after_readings}
use Rattle.announced.specs.declared.Progress.{Progress}
use Rattle.applying.specs.Checks.{applying}
use Rattle.occurrences.specs.Values.{occurrences_from, integer_in, raws_of, is_refusal, answered, unless_refused, values_on, values_of}

-- 01: "Occurrences go in order": each value changes run and announced by its severity
unfoldable pub progress_by : (checks : List Check) → (nbchck : ℕ) → Progress → (values : List ℤ) → Progress
progress_by checks nbchck progress values = after_readings nbchck (map (severity_in checks) values) progress

-- the same of the raw values of occurrences 0 to NBOCC - 1, or 28, 30, 31
unfoldable pub checked_by : (raw : ℕ → Outcome Value) → (nbocc : ℕ) → Scale → (valid : Bool) → (checks : List Check) → (nbchck : ℕ) → Progress → Outcome Progress
checked_by raw nbocc scale valid checks nbchck progress =
    and_then (raws_of raw (occurrences_from 0 nbocc)) (λ raws.
    and_then (values_on scale valid raws) (λ values.
    answer (progress_by checks nbchck progress values)))

-- and of a parameter in a packet of this SPID
unfoldable pub checked_of : Rows → List ℕ → (spid : ℕ) → Name → OcfRow → Progress → Located → Outcome Progress
checked_of rows p spid name ocf progress at =
    and_then (values_of rows p spid ocf at) (λ values. answer (progress_by (applying rows p spid name) ocf.nbchck progress values))

-- a hard check from 0 to 9 and NBCHCK 2: 10 and then 11 are announced, and 9 ends the run
abbrev hard : List Check
hard = record { level = 2; low = pos 0; high = pos 9 } ∷ []

abbrev at_first : Progress
at_first = record { run = 0; announced = 0 }

abbrev progress_over : List ℤ → Progress
progress_over values = progress_by hard 2 at_first values

pub record Examples : Type 0 where
  pub twice : progress_over (pos 10 ∷ pos 11 ∷ []) ≡ record { run = 2; announced = 2 }
  pub ended : progress_over (pos 10 ∷ pos 9 ∷ []) ≡ record { run = 0; announced = 0 }
  pub read : checked_by (λ k. answer (number (pos 10))) 2 as_read true hard 2 at_first ≡ answer (record { run = 2; announced = 2 })
  pub invalid : checked_by (λ k. answer (number (pos 10))) 2 as_read false hard 2 at_first ≡ answer at_first
  pub leaves : checked_by (λ k. refused 28 7) 2 as_read false hard 2 at_first ≡ refused 28 7

pub examples : Examples
unfolding
    checked_by raws_of occurrences_from integer_in values_on unless_refused is_refusal answered on_scale and_then
    progress_by severity_in violates is_violated after_readings after_reading violation raised
examples = record { twice = refl; ended = refl; read = refl; invalid = refl; leaves = refl }
