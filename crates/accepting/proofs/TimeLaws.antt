-- What the functions answer, test by test.
use mathlib.Core.Path.{◌≡◌}
use mathlib.Core.Bool.{true, false}
use borrow.Author.Tests.{eq-eqb, ne_eqb}
use Rattle.outcomes.specs.Outcome.{Outcome, refused, answer}
use Rattle.headers.specs.declared.Head.{Head}
use Rattle.limit_state.specs.State.{is_newer}
use Rattle.limit_state.specs.declared.state.LimitState.{LimitState}
use Rattle.accepting.specs.Time.{in_time}
use Rattle.accepting.specs.Answer.{Answers}
use Rattle.accepting.specs.declared.step.Stepped.{Stepped}

-- equal outcomes have the same answer
pub answers_as : {s : LimitState} {a b : Outcome LimitState} {r : Stepped} → Answers s a r → a ≡ b → Answers s b r
answers_as x e = rw e at x

-- The time of a packet

module _ (s : LimitState) (head : Head) where
  pub time_fresh : s.fresh ≡ true → answer s ≡ in_time s head
  unfolding in_time
  time_fresh f = rw f

  module _ (f : s.fresh ≡ false) where
    pub time_other : (head.apid ≡ s.apid → ⊥) → refused 36 0 ≡ in_time s head
    unfolding in_time
    time_other h = rw (f, ne_eqb head.apid s.apid h)

    pub time_newer : head.apid ≡ s.apid → is_newer head.count s.count ≡ true → answer s ≡ in_time s head
    unfolding in_time
    time_newer e n = rw (f, eq-eqb head.apid s.apid e, n)

    pub time_old : head.apid ≡ s.apid → is_newer head.count s.count ≡ false → refused 35 0 ≡ in_time s head
    unfolding in_time
    time_old e n = rw (f, eq-eqb head.apid s.apid e, n)
