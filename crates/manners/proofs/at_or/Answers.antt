-- Past the end there is the default.
use mathlib.Core.Path.{sym}
use native.Mathlib.Omega.{arith}
use lib.ListN.{get_or-eq_default}
use Rattle.manners.proofs.MannerLaws.{any_default}
use Rattle.manners.proofs.at_or.Goals as goal

pub returns-then-i-values : goal.returns-then-i-values
returns-then-i-values c = any_default c.args.values.now c.args.i 0 c.args.none (omega arith)

pub returns : goal.returns
returns c = sym (get_or-eq_default c.args.values.now _ (omega arith))
