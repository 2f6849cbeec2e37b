-- By the number and the most it may be.
use mathlib.Core.Path.{sym, ◌∙◌}
use native.Mathlib.Omega.{arith}
use Rattle.scripts.proofs.NumeralLaws.{most_in, most_out, most_unread}
use Rattle.scripts.proofs.operands.natural_to.Goals as goal

pub returns-in_err-n : goal.returns-in_err-n
returns-in_err-n c = c.from_residual.ensures ∙ most_unread _ _ (sym c.natural_in.ensures ∙ c.in_err-n.was)

pub returns-then-n-most : goal.returns-then-n-most
returns-then-n-most c = most_in _ _ _ (sym c.natural_in.ensures ∙ c.in_ok-n.was) (omega arith)

pub returns : goal.returns
returns c = most_out _ _ c.in_ok-n.n (sym c.natural_in.ensures ∙ c.in_ok-n.was) (omega arith)
