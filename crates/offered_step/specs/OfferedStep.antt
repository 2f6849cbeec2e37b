-- A limit step of what is offered as a state.
use Rattle.std.specs.Prelude.{ℕ, ◌≡◌, refl, List, [], Option, Some, None}
use Rattle.verdicts.specs.Answer.{first_table, too_long, too_many_rows}
use Rattle.tables.specs.Sizes.{sizes_of}
use Rattle.outcomes.specs.Outcome.{Outcome, refused}
use Rattle.limit_state.specs.declared.state.LimitState.{LimitState}
use Rattle.calls.specs.Tables.{after_sizes, asking}
use Rattle.calls.specs.Calls.{limit_step_of}

-- numbers that are no state, after 1 and 2
unfoldable pub no_state : List (List ℕ) → Outcome LimitState
no_state texts = asking texts (λ rows. refused 34 0)

-- a limit step of what was offered as a state, none where its numbers are none
unfoldable pub limit_step_from : List (List ℕ) → (p name : List ℕ) → Option LimitState → Outcome LimitState
limit_step_from texts p name None = no_state texts
limit_step_from texts p name (Some s) = limit_step_of texts p name s

-- 34 comes before the packet's refusals: a packet of no bytes is under 7
pub example : limit_step_from [] [] [] None ≡ refused 34 0
unfolding limit_step_from no_state asking after_sizes sizes_of too_long too_many_rows first_table
example = refl
