-- What is answered to a call, whichever it is.
use mathlib.Core.Path.{◌≡◌, refl, subst, ◌∙◌}
use mathlib.Core.List.{List}
use Rattle.std.specs.Prelude.{Result, Err}
use Prim.Native.Nat.{ℕ}
use denote.Enum.Declared.{tag_of}
use Rattle.outcomes.specs.Outcome.{Outcome}
use Rattle.outcomes.specs.Refusals.{refused_by}
use Rattle.outcomes.specs.declared.Refusal.{Refusal}
use Rattle.database.specs.Rows.{Rows}
use Rattle.identification.specs.Identification.{Identity, identify_by, said_identified}
use Rattle.identification.specs.declared.Identity as identity
use Rattle.readings.specs.Readings.{Reading, said_reading}
use Rattle.readings.specs.declared.Reading as reading
use Rattle.engineering.specs.Engineering as engineering
use Rattle.engineering.specs.Engineering.{said_engineered}
use Rattle.engineering.specs.declared.engineer.Engineered as value
use Rattle.limit_state.specs.declared.state.LimitState.{LimitState}
use Rattle.stepping.specs.Step.{step_in}
use Rattle.accepting.specs.Accepted.{state_after}
use Rattle.accepting.specs.Answer.{said_step, Answers}
use Rattle.accepting.specs.declared.step.Stepped as stepped
use Rattle.extraction.specs.Extraction.{extract_by}
use Rattle.extraction.specs.Engineering.{engineer_by}
use Rattle.answering.specs.Answering.{Asking, Answering}
use Rattle.answering.specs.declared.Call.{Call}
use Rattle.answering.specs.declared.Call.TheVariants.{Identify, Extract, Engineer, LimitStep}
use Rattle.answering.specs.declared.Answered.{Answered}
use Rattle.answering.specs.contracts.Answered.{the_type}
use Rattle.answering.specs.declared.Answered.TheVariants.{Identified, Read, Engineered, Stepped}

abbrev refusing : Refusal → Asking
refusing refusal = λ A ask. refused_by refusal

abbrev of : Rows → Asking
of rows = λ A ask. ask rows

-- each call, refused
module _ (p name : List ℕ) (refusal : Refusal) {call : Call} where
  pub refuse_identify : call ≡ Identify → Answering (refusing refusal) p name call (Identified (Err refusal))
  unfolding Answering said_identified
  refuse_identify e = rw e refl

  pub refuse_extract : (k : ℕ) → call ≡ Extract k → Answering (refusing refusal) p name call (Read (Err refusal))
  unfolding Answering said_reading
  refuse_extract k e = rw e refl

  pub refuse_engineer : (k : ℕ) → call ≡ Engineer k → Answering (refusing refusal) p name call (Engineered (Err refusal))
  unfolding Answering said_engineered
  refuse_engineer k e = rw e refl

  pub refuse_step : (s : LimitState) → call ≡ LimitStep s
      → Answering (refusing refusal) p name call (Stepped (record { answer = Err refusal; state = s }))
  unfolding Answering said_step state_after refused_by
  refuse_step s e = rw e (record { said = refl; after = refl })

-- each call, answered by rows
module _ (rows : Rows) (p name : List ℕ) {call : Call} where
  pub answer_identify : call ≡ Identify → (r : Result identity.Identity Refusal) → said_identified r ≡ identify_by rows p → Answering (of rows) p name call (Identified r)
  unfolding Answering
  answer_identify e r h = rw e h

  pub answer_extract : (k : ℕ) → call ≡ Extract k → (r : Result reading.Reading Refusal) → said_reading r ≡ extract_by rows p name k → Answering (of rows) p name call (Read r)
  unfolding Answering
  answer_extract k e r h = rw e h

  pub answer_engineer : (k : ℕ) → call ≡ Engineer k → (r : Result value.Engineered Refusal) → said_engineered r ≡ engineer_by rows p name k
      → Answering (of rows) p name call (Engineered r)
  unfolding Answering
  answer_engineer k e r h = rw e h

  pub answer_step : (s : LimitState) → call ≡ LimitStep s → (r : stepped.Stepped) → Answers s (step_in rows p name s) r
      → Answering (of rows) p name call (Stepped r)
  unfolding Answering
  answer_step s e r h = rw e h

-- what is asked in another way and says the same is answered the same
module _ (first second : Asking) (same : (A : Type 0) (ask : Rows → Outcome A) → first A ask ≡ second A ask) (p name : List ℕ) where
  pub answering_same : (call : Call) (answered : Answered) → Answering first p name call answered → Answering second p name call answered
  unfolding Answering
  answering_same Identify (Identified r) h = h ∙ same _ _
  answering_same Identify (Read r) h = absurd h
  answering_same Identify (Engineered r) h = absurd h
  answering_same Identify (Stepped r) h = absurd h
  answering_same (Extract k) (Identified r) h = absurd h
  answering_same (Extract k) (Read r) h = h ∙ same _ _
  answering_same (Extract k) (Engineered r) h = absurd h
  answering_same (Extract k) (Stepped r) h = absurd h
  answering_same (Engineer k) (Identified r) h = absurd h
  answering_same (Engineer k) (Read r) h = absurd h
  answering_same (Engineer k) (Engineered r) h = h ∙ same _ _
  answering_same (Engineer k) (Stepped r) h = absurd h
  answering_same (LimitStep s) (Identified r) h = absurd h
  answering_same (LimitStep s) (Read r) h = absurd h
  answering_same (LimitStep s) (Engineered r) h = absurd h
  answering_same (LimitStep s) (Stepped r) h = subst (λ (o : Outcome LimitState). Answers s o r) (same LimitState (λ rows. step_in rows p name s)) h

-- an answer of the call's own kind
module _ (ask : Asking) (p name : List ℕ) {a : Answered} where
  pub says_identity : Answering ask p name Identify a → (r : Result identity.Identity Refusal) → a ≡ Identified r
      → said_identified r ≡ ask Identity (λ rows. identify_by rows p)
  unfolding Answering
  says_identity h r e = subst (Answering ask p name Identify) e h

  pub says_reading : (k : ℕ) → Answering ask p name (Extract k) a → (r : Result reading.Reading Refusal) → a ≡ Read r
      → said_reading r ≡ ask Reading (λ rows. extract_by rows p name k)
  unfolding Answering
  says_reading k h r e = subst (Answering ask p name (Extract k)) e h

  pub says_engineered : (k : ℕ) → Answering ask p name (Engineer k) a → (r : Result value.Engineered Refusal) → a ≡ Engineered r
      → said_engineered r ≡ ask engineering.Engineered (λ rows. engineer_by rows p name k)
  unfolding Answering
  says_engineered k h r e = subst (Answering ask p name (Engineer k)) e h

  pub says_step : (s : LimitState) → Answering ask p name (LimitStep s) a → (r : stepped.Stepped) → a ≡ Stepped r
      → Answers s (ask LimitState (λ rows. step_in rows p name s)) r
  unfolding Answering
  says_step s h r e = subst (Answering ask p name (LimitStep s)) e h

-- there is no other: the kinds of answers stand in the order of the calls
module _ (ask : Asking) (p name : List ℕ) where
  pub kind_identity : (a : Answered) → Answering ask p name Identify a → tag_of the_type a ≡ 0
  unfolding Answering
  kind_identity (Identified r) h = refl
  kind_identity (Read r) h = absurd h
  kind_identity (Engineered r) h = absurd h
  kind_identity (Stepped r) h = absurd h

  pub kind_reading : (k : ℕ) (a : Answered) → Answering ask p name (Extract k) a → tag_of the_type a ≡ 1
  unfolding Answering
  kind_reading k (Identified r) h = absurd h
  kind_reading k (Read r) h = refl
  kind_reading k (Engineered r) h = absurd h
  kind_reading k (Stepped r) h = absurd h

  pub kind_engineered : (k : ℕ) (a : Answered) → Answering ask p name (Engineer k) a → tag_of the_type a ≡ 2
  unfolding Answering
  kind_engineered k (Identified r) h = absurd h
  kind_engineered k (Read r) h = absurd h
  kind_engineered k (Engineered r) h = refl
  kind_engineered k (Stepped r) h = absurd h

  pub kind_step : (s : LimitState) (a : Answered) → Answering ask p name (LimitStep s) a → tag_of the_type a ≡ 3
  unfolding Answering
  kind_step s (Identified r) h = absurd h
  kind_step s (Read r) h = absurd h
  kind_step s (Engineered r) h = absurd h
  kind_step s (Stepped r) h = refl
