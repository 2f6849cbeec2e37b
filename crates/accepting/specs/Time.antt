-- Whether a state takes a packet.
use Rattle.std.specs.Prelude.{◌≡◌, refl, true, false, cond, eqb}
use Rattle.outcomes.specs.Outcome.{Outcome, refused, answer}
use Rattle.headers.specs.declared.Head.{Head}
use Rattle.limit_state.specs.State.{is_over, has_number, is_a_state, ahead, is_newer}
use Rattle.limit_state.specs.declared.state.LimitState.{LimitState}

-- 01: "34 … state with run over 99, announced over 2, APID over 2,047, count over 16,383,
-- or fresh with any number not 0"
unfoldable pub state_in : LimitState → Outcome LimitState
state_in s = cond (is_a_state s) (answer s) (refused 34 0)

-- 01: "35, 36 … packet not newer; packet of another APID"; "a fresh state takes any count and any APID";
-- 36 comes before 35
unfoldable pub in_time : LimitState → Head → Outcome LimitState
in_time s head =
    cond s.fresh (answer s)
    (cond (eqb head.apid s.apid) (cond (is_newer head.count s.count) (answer s) (refused 35 0))
    (refused 36 0))

-- a state of APID 10 and count 5, a fresh state, and one with a run of 100
abbrev used : LimitState
used = record { fresh = false; apid = 10; count = 5; run = 0; announced = 0 }

abbrev unused : LimitState
unused = record { fresh = true; apid = 0; count = 0; run = 0; announced = 0 }

pub record Examples : Type 0 where
  pub next : in_time used (record { flagged = true; apid = 10; count = 6 }) ≡ answer used
  pub same : in_time used (record { flagged = true; apid = 10; count = 5 }) ≡ refused 35 0
  pub other : in_time used (record { flagged = true; apid = 11; count = 5 }) ≡ refused 36 0
  pub first : in_time unused (record { flagged = true; apid = 11; count = 5 }) ≡ answer unused
  pub long_run : state_in (record { fresh = false; apid = 10; count = 5; run = 100; announced = 0 }) ≡ refused 34 0

pub examples : Examples
unfolding in_time is_newer ahead state_in is_a_state is_over has_number
examples = record { next = refl; same = refl; other = refl; first = refl; long_run = refl }
