-- An answer of its own kind; there is no other.
use borrow.Enum.Refused.{opened}
use mathlib.Core.Path.{subst}
use mathlib.Core.List.{[], ◌∷◌}
use types.Run.{OneOf, miss}
use Rattle.calls.specs.Calls.{extract_of}
use Rattle.answering.proofs.AnsweringLaws.{says_reading, kind_reading}
use Rattle.calls.proofs.extract.extract.Goals as goal

pub returns-in-Read : goal.returns-in-Read
unfolding extract_of
returns-in-Read c = says_reading _ _ _ _ c.ask.ensures _ c.in-Read.is

pub returns-in_default : goal.returns-in_default
returns-in_default c = absurd (miss (0 ∷ 2 ∷ 3 ∷ []) 1 tt (subst (OneOf (0 ∷ 2 ∷ 3 ∷ [])) (kind_reading _ _ _ _ _ c.ask.ensures) (opened c.in_default.in_default-own.keys2)))
