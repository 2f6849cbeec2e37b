-- The constants are the list's.
use mathlib.Core.Path.{ap, ◌∙◌}
use Prim.Native.Nat.{ℕ}
use lib.Dec.{eqb}
use Rattle.manners.specs.Manners.{bit, manners}
use Rattle.manners.proofs.MannerLaws.{by_code}
use Rattle.manners.proofs.MarkLaws.{bit_back}
use Rattle.manners.proofs.naming_chained.Goals as goal

pub returns : goal.returns
unfolding manners
returns c = ap (λ (n : ℕ). eqb n 1) (c.at_or.ensures ∙ by_code (λ m. bit m.chained) _) ∙ bit_back _
