-- An answer of its own kind; there is no other.
use borrow.Enum.Refused.{opened}
use mathlib.Core.Path.{subst}
use mathlib.Core.List.{[], ◌∷◌}
use types.Run.{OneOf, miss}
use Rattle.calls.specs.Calls.{engineer_of}
use Rattle.answering.proofs.AnsweringLaws.{says_engineered, kind_engineered}
use Rattle.calls.proofs.engineer.engineer.Goals as goal

pub returns-in-Engineered : goal.returns-in-Engineered
unfolding engineer_of
returns-in-Engineered c = says_engineered _ _ _ _ c.ask.ensures _ c.in-Engineered.is

pub returns-in_default : goal.returns-in_default
returns-in_default c = absurd (miss (0 ∷ 1 ∷ 3 ∷ []) 2 tt (subst (OneOf (0 ∷ 1 ∷ 3 ∷ [])) (kind_engineered _ _ _ _ _ c.ask.ensures) (opened c.in_default.in_default-own.keys2)))
