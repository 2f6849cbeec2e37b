-- What a limit step's answer says, and the state beside it.
use Rattle.std.specs.Prelude.{◌≡◌, refl, true, Result, Ok, Err}
use Rattle.outcomes.specs.Outcome.{Outcome, refused, answer}
use Rattle.outcomes.specs.Refusals.{refusal_number, refusal_place, refused_by}
use Rattle.outcomes.specs.declared.Refusal.{Refusal}
use Rattle.outcomes.specs.declared.Refusal.TheVariants.{NotNewer}
use Rattle.limit_state.specs.declared.state.LimitState.{LimitState}
use Rattle.accepting.specs.Accepted.{state_after}
use Rattle.accepting.specs.declared.step.Stepped.{Stepped}

-- 01's number and place, or the new state, of each case
unfoldable pub said_step : Result (Unit {0}) Refusal → LimitState → Outcome LimitState
said_step (Ok taken) state = answer state
said_step (Err refusal) state = refused_by refusal

-- the answer is this outcome; and the state beside it is the state after the packet: refused,
-- it is the one that was offered
pub record Answers (offered : LimitState) (outcome : Outcome LimitState) (r : Stepped) : Type 0 where
  pub said : said_step r.answer r.state ≡ outcome
  pub after : r.state ≡ state_after offered outcome

pub example : said_step (Err NotNewer) (record { fresh = true; apid = 0; count = 0; run = 0; announced = 0 }) ≡ refused 35 0
unfolding said_step refused_by refusal_number refusal_place
example = refl
