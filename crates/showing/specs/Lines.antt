-- What is said of a packet.
use Rattle.std.specs.Prelude.{ℕ, ◌≡◌, refl, Result, Ok, Err}
use Rattle.outcomes.specs.Refusals.{refusal_number, refusal_place}
use Rattle.outcomes.specs.declared.Refusal.{Refusal}
use Rattle.outcomes.specs.declared.Refusal.TheVariants.{NotNewer}
use Rattle.limit_state.specs.declared.state.LimitState.{LimitState}
use Rattle.accepting.specs.declared.step.Stepped.{Stepped}
use Rattle.showing.specs.declared.packet_lines.Line.{Line}

-- 01's number and place of a refusal, 0 of a packet that is taken
unfoldable pub refusal_in : Result (Unit {0}) Refusal → ℕ
refusal_in (Ok taken) = 0
refusal_in (Err refusal) = refusal_number refusal

unfoldable pub place_shown : Result (Unit {0}) Refusal → ℕ
place_shown (Ok taken) = 0
place_shown (Err refusal) = refusal_place refusal

-- the packet with this number and count
unfoldable pub printed_line : (number count : ℕ) → Stepped → Line
printed_line number count r =
    record {
      number = number;
      count = count;
      refusal = refusal_in r.answer;
      place = place_shown r.answer;
      run = r.state.run;
      announced = r.state.announced;
    }

pub example : (s : LimitState) → printed_line 121 16360 (record { answer = Err NotNewer; state = s })
    ≡ record { number = 121; count = 16360; refusal = 35; place = 0; run = s.run; announced = s.announced }
unfolding printed_line refusal_in place_shown refusal_number refusal_place
example s = refl
