-- Past the end nothing is left.
use mathlib.Core.Path.{sym}
use lib.ListN.{drop_of_length-le}
use Rattle.laws.proofs.Lists.{rest}
use Rattle.identifiers.proofs.bytes_from.Goals as goal

pub returns-then-p-at : goal.returns-then-p-at
returns-then-p-at c = sym (drop_of_length-le _ c.if-p-at.true)

pub returns : goal.returns
returns c = rest c.args.p.now c.args.at
