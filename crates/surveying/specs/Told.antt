-- What a question tells of a packet in a survey: a weight that stands for the answer, or none where it is refused.
use Rattle.std.specs.Prelude.{◌≡◌, ℕ, true, false, cond, List, negsuc, to_bits, unsigned_abs, refl, Option, Some, None}
use Rattle.std.specs.Float.{binary64}
use Rattle.outcomes.specs.Outcome.{Outcome, refused, answer}
use Rattle.outcomes.specs.Values.{Value, number, part, bits}
use Rattle.database.specs.Rows.{Rows}
use Rattle.identification.specs.Identification.{Identity, identify_by}
use Rattle.readings.specs.Readings.{Reading}
use Rattle.engineering.specs.Engineering.{Engineered, value, double, text}
use Rattle.extraction.specs.Extraction.{extract_by}
use Rattle.extraction.specs.Engineering.{engineer_by}
use Rattle.surveying.specs.declared.asking.Question.{Question}
use Rattle.surveying.specs.declared.asking.Question.TheVariants.{Identify, Extract, Engineer}

-- a number weighs what it is without its sign, a string where it starts, a real its bits
unfoldable pub weight_of : Value → ℕ
weight_of (number z) = unsigned_abs z
weight_of (part start bytes) = start
weight_of (bits pattern width) = pattern

-- a packet's weight is its SPID
unfoldable pub tell_identity : Outcome Identity → Option ℕ
tell_identity (refused n place) = None
tell_identity (answer identity) = Some identity.spid

-- a reading's its value, where it is valid
unfoldable pub tell_reading : Outcome Reading → Option ℕ
tell_reading (refused n place) = None
tell_reading (answer reading) = Some (cond reading.valid (weight_of reading.value) 0)

-- a double weighs its bits, a text where it starts in its table
unfoldable pub tell_engineered : Outcome Engineered → Option ℕ
tell_engineered (refused n place) = None
tell_engineered (answer (value v)) = Some (weight_of v)
tell_engineered (answer (double x)) = Some (to_bits binary64 x)
tell_engineered (answer (text t)) = Some t.start

-- of a parameter its occurrence 0 is asked for
unfoldable pub told : Rows → (name : List ℕ) → Question → (packet : List ℕ) → Option ℕ
told rows name Identify p = tell_identity (identify_by rows p)
told rows name Extract p = tell_reading (extract_by rows p name 0)
told rows name Engineer p = tell_engineered (engineer_by rows p name 0)

pub record Examples : Type 0 where
  pub refusal : tell_reading (refused 28 12) ≡ None
  pub minus : tell_reading (answer (record { value = number (negsuc 122); valid = true })) ≡ Some 123
  pub invalid : tell_reading (answer (record { value = number (negsuc 122); valid = false })) ≡ Some 0

pub examples : Examples
unfolding tell_reading weight_of
examples = record { refusal = refl; minus = refl; invalid = refl }
