-- What the functions of a limit step answer, step by step.
use mathlib.Core.Path.{◌≡◌, refl, ap, ◌∙◌}
use mathlib.Core.Bool.{true, false}
use mathlib.Core.List.{List}
use mathlib.Core.Option.{none, some}
use Prim.Native.Nat.{ℕ}
use Rattle.name_bytes.specs.Names.{name_of}
use Rattle.name_bytes.specs.declared.Name.{Name}
use Rattle.decoding.specs.Records.{ocf_row}
use Rattle.rows.specs.declared.records.OcfRow.{OcfRow}
use Rattle.outcomes.specs.Outcome.{Outcome, refused, answer, and_then}
use Rattle.verdicts.specs.Key.{limits}
use Rattle.database.specs.Rows.{Row, Rows}
use Rattle.parameters.specs.Located.{Located, located}
use Rattle.headers.specs.Header.{head_of}
use Rattle.headers.specs.declared.Head.{Head}
use Rattle.limit_state.specs.State.{is_a_state}
use Rattle.limit_state.specs.declared.state.LimitState.{LimitState}
use Rattle.announced.specs.declared.Progress.{Progress}
use Rattle.applying.specs.Checks.{applying}
use Rattle.occurrences.specs.Values.{values_of}
use Rattle.occurrences.specs.Progress.{progress_by, checked_of}
use Rattle.accepting.specs.Time.{state_in, in_time}
use Rattle.stepping.specs.Step.{limits_from, limits_of, step_by, step_at, step_of, step_headed, step_in}
use Rattle.accepting.specs.Accepted.{progress_of, accepted}

-- The values

both_then : {A B C : Type 0} (o : Outcome A) (f : A → B) (g : B → C)
    → and_then (and_then o (λ a. answer (f a))) (λ b. answer (g b)) ≡ and_then o (λ a. answer (g (f a)))
unfolding and_then
both_then (refused n place) f g = refl
both_then (answer a) f g = refl

module _ (rows : Rows) (p : List ℕ) (name : Name) (s : LimitState) (head : Head) where
  module _ (spid : ℕ) where
    pub in_time_lem : (ocf : OcfRow) (at : Located) {checked : Outcome Progress} → answer s ≡ in_time s head
        → checked ≡ checked_of rows p spid name ocf (progress_of s) at
        → and_then checked (λ progress. answer (accepted head progress)) ≡ step_at rows p name s head spid ocf at
    unfolding step_at step_by and_then checked_of
    in_time_lem ocf at t e =
        ap (λ (o : Outcome Progress). and_then o (λ progress. answer (accepted head progress))) e
        ∙ both_then (values_of rows p spid ocf at) (progress_by (applying rows p spid name) ocf.nbchck (progress_of s)) (accepted head)
        ∙ rw (← t)

    -- The limits and the place of the parameter

    pub no_limits_lem : rows.holder (limits name) ≡ none → refused 33 0 ≡ step_of rows p name s head spid
    unfolding step_of limits_of limits_from and_then
    no_limits_lem e = rw e

    module _ {row : Row} (e : rows.holder (limits name) ≡ some row) where
      pub no_place : refused 26 0 ≡ located rows spid name → refused 26 0 ≡ step_of rows p name s head spid
      unfolding step_of limits_of limits_from and_then
      no_place l = rw (e, ← l)

      pub with_place : {ocf : OcfRow} {at : Located} → ocf ≡ ocf_row row.bytes → answer at ≡ located rows spid name
          → step_at rows p name s head spid ocf at ≡ step_of rows p name s head spid
      unfolding step_of limits_of limits_from and_then
      with_place o l = rw (e, ← l, o)

-- The state

module _ (rows : Rows) (p name : List ℕ) (s : LimitState) where
  pub no_state_lem : is_a_state s ≡ false → refused 34 0 ≡ step_in rows p name s
  unfolding step_in state_in and_then
  no_state_lem f = rw f

  pub with_head : {head : Head} {own : Name} → answer head ≡ head_of p → own ≡ name_of name
      → step_headed rows p own s head ≡ and_then (head_of p) (step_headed rows p (name_of name) s)
  unfolding and_then
  with_head e q = rw (q, ← e)

  pub of_state_lem : {o : Outcome LimitState} → is_a_state s ≡ true → o ≡ and_then (head_of p) (step_headed rows p (name_of name) s) → o ≡ step_in rows p name s
  unfolding step_in state_in and_then
  of_state_lem t h = rw t h
