-- The state that a packet leaves.
use Rattle.std.specs.Prelude.{◌≡◌, refl, true, false}
use Rattle.outcomes.specs.Outcome.{Outcome, refused, answer}
use Rattle.headers.specs.declared.Head.{Head}
use Rattle.limit_state.specs.declared.state.LimitState.{LimitState}
use Rattle.announced.specs.declared.Progress.{Progress}

-- the numbers of a state that readings change
unfoldable pub progress_of : LimitState → Progress
progress_of s = record { run = s.run; announced = s.announced }

-- 01: "An accepted packet always sets the APID and count and ends fresh": the state after it is no longer fresh
unfoldable pub accepted : Head → Progress → LimitState
accepted head progress = record { fresh = false; apid = head.apid; count = head.count; run = progress.run; announced = progress.announced }

-- the state that the next packet meets. 01: "A refusal writes nothing"
unfoldable pub state_after : LimitState → Outcome LimitState → LimitState
state_after s (refused number place) = s
state_after s (answer t) = t

-- a fresh state after a packet of APID 10 and count 5 whose readings left this run; and the same state,
-- where the packet is refused
abbrev begun : LimitState
begun = record { fresh = true; apid = 0; count = 0; run = 0; announced = 0 }

abbrev left : LimitState
left = accepted (record { flagged = true; apid = 10; count = 5 }) (record { run = 3; announced = 2 })

pub record Examples : Type 0 where
  pub taken : state_after begun (answer left) ≡ record { fresh = false; apid = 10; count = 5; run = 3; announced = 2 }
  pub again : progress_of left ≡ record { run = 3; announced = 2 }
  pub untouched : state_after begun (refused 35 0) ≡ begun

pub examples : Examples
unfolding state_after accepted progress_of
examples = record { taken = refl; again = refl; untouched = refl }
