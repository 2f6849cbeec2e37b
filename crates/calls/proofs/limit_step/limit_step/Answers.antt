-- An answer of its own kind; there is no other.
use borrow.Enum.Refused.{opened}
use mathlib.Core.Path.{subst}
use mathlib.Core.List.{[], ◌∷◌}
use types.Run.{OneOf, miss}
use Rattle.calls.specs.Calls.{limit_step_of}
use Rattle.answering.proofs.AnsweringLaws.{says_step, kind_step}
use Rattle.calls.proofs.limit_step.limit_step.Goals as goal

pub returns-in-Stepped : goal.returns-in-Stepped
unfolding limit_step_of
returns-in-Stepped c = says_step _ _ _ _ c.ask.ensures _ c.in-Stepped.is

pub returns-in_default : goal.returns-in_default
returns-in_default c = absurd (miss (0 ∷ 1 ∷ 2 ∷ []) 3 tt (subst (OneOf (0 ∷ 1 ∷ 2 ∷ [])) (kind_step _ _ _ _ _ c.ask.ensures) (opened c.in_default.in_default-own.keys2)))
