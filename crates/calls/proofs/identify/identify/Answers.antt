-- An answer of its own kind; there is no other.
use borrow.Enum.Refused.{opened}
use mathlib.Core.Path.{subst}
use mathlib.Core.List.{[], ◌∷◌}
use types.Run.{OneOf, miss}
use Rattle.calls.specs.Calls.{identify_of}
use Rattle.answering.proofs.AnsweringLaws.{says_identity, kind_identity}
use Rattle.calls.proofs.identify.identify.Goals as goal

pub returns-in-Identified : goal.returns-in-Identified
unfolding identify_of
returns-in-Identified c = says_identity _ _ _ c.ask.ensures _ c.in-Identified.is

pub returns-in_default : goal.returns-in_default
returns-in_default c = absurd (miss (1 ∷ 2 ∷ 3 ∷ []) 0 tt (subst (OneOf (1 ∷ 2 ∷ 3 ∷ [])) (kind_identity _ _ _ _ c.ask.ensures) (opened c.in_default.in_default-own.keys2)))
