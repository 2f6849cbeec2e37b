-- `calibration::ints::item` meets its contract: past the end the element is 0.
use lib.IntN.{pos}
use lib.ListN.{get_or-eq_default}
use mathlib.Core.Path.{sym}
use native.Mathlib.Omega.{arith}
use Rattle.calibration.proofs.ints.item.Goals as goal

pub returns-else-i-xs : goal.returns-else-i-xs
returns-else-i-xs c = sym (get_or-eq_default c.args.xs.now (pos 0) {n = c.args.i} (omega arith))
