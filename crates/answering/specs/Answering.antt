-- What is answered to a call, whichever it is.
use Rattle.std.specs.Prelude.{ℕ, ◌≡◌, refl, List, [], Err}
use Rattle.outcomes.specs.Outcome.{Outcome, refused}
use Rattle.outcomes.specs.Refusals.{refusal_number, refusal_place, refused_by}
use Rattle.outcomes.specs.declared.Refusal.TheVariants.{FieldLeaves}
use Rattle.database.specs.Rows.{Rows}
use Rattle.identification.specs.Identification.{Identity, identify_by, said_identified}
use Rattle.readings.specs.Readings.{Reading, said_reading}
use Rattle.engineering.specs.Engineering as engineering
use Rattle.engineering.specs.Engineering.{said_engineered}
use Rattle.limit_state.specs.declared.state.LimitState.{LimitState}
use Rattle.stepping.specs.Step.{step_in}
use Rattle.accepting.specs.Answer.{Answers}
use Rattle.extraction.specs.Extraction.{extract_by}
use Rattle.extraction.specs.Engineering.{engineer_by}
use Rattle.answering.specs.declared.Call.{Call}
use Rattle.answering.specs.declared.Call.TheVariants.{Identify, Extract, Engineer, LimitStep}
use Rattle.answering.specs.declared.Answered.{Answered}
use Rattle.answering.specs.declared.Answered.TheVariants.{Identified, Read, Engineered, Stepped}

-- how rows are asked: the tables' own rows after refusals 1 and 2, the rows of a database, or none where all is refused
abbrev pub Asking : Type 1
Asking = (A : Type 0) → (Rows → Outcome A) → Outcome A

-- an answer of the call's own kind, and what it says; there is none of another kind
unfoldable pub Answering : Asking → (p name : List ℕ) → Call → Answered → Type 0
Answering ask p name Identify (Identified r) = said_identified r ≡ ask Identity (λ rows. identify_by rows p)
Answering ask p name Identify (Read r) = ⊥
Answering ask p name Identify (Engineered r) = ⊥
Answering ask p name Identify (Stepped r) = ⊥
Answering ask p name (Extract k) (Identified r) = ⊥
Answering ask p name (Extract k) (Read r) = said_reading r ≡ ask Reading (λ rows. extract_by rows p name k)
Answering ask p name (Extract k) (Engineered r) = ⊥
Answering ask p name (Extract k) (Stepped r) = ⊥
Answering ask p name (Engineer k) (Identified r) = ⊥
Answering ask p name (Engineer k) (Read r) = ⊥
Answering ask p name (Engineer k) (Engineered r) = said_engineered r ≡ ask engineering.Engineered (λ rows. engineer_by rows p name k)
Answering ask p name (Engineer k) (Stepped r) = ⊥
Answering ask p name (LimitStep s) (Identified r) = ⊥
Answering ask p name (LimitStep s) (Read r) = ⊥
Answering ask p name (LimitStep s) (Engineered r) = ⊥
Answering ask p name (LimitStep s) (Stepped r) = Answers s (ask LimitState (λ rows. step_in rows p name s)) r

-- where all is refused with 28 at byte 14, an extraction is
pub example : Answering (λ _ _. refused 28 14) [] [] (Extract 0) (Read (Err (FieldLeaves (record { 0 = 14 }))))
unfolding Answering said_reading refused_by refusal_number refusal_place
example = refl
