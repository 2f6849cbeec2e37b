-- The place of every refusal of a limit step is small.
use mathlib.Core.Path.{◌≡◌}
use mathlib.Core.List.{List}
use Rattle.std.specs.Prelude.{Option, Some, None}
use Prim.Native.Nat.{ℕ}
use lib.ListN.{length}
use Rattle.outcomes.specs.Outcome.{refused}
use Rattle.verdicts.specs.Entries.{table_count}
use Rattle.limit_state.specs.declared.state.LimitState.{LimitState}
use Rattle.refusal_places.specs.Small.{Small}
use Rattle.refusal_places.proofs.SmallLaws.{no_place}
use Rattle.refusal_places.proofs.CallPlaces.{asking_small, step_of_small}
use Rattle.offered_step.specs.OfferedStep.{no_state, limit_step_from}

pub step_from_small : (texts : List (List ℕ)) → length texts ≡ table_count → (p name : List ℕ) (offered : Option LimitState) → Small
    (limit_step_from texts p name offered)
unfolding limit_step_from no_state
step_from_small texts all p name None = asking_small texts all (λ rows. refused 34 0) (λ rows ranges. no_place 34)
step_from_small texts all p name (Some s) = step_of_small texts all p name s
