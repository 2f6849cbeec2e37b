-- Past the last there is none.
use mathlib.Core.Path.{sym}
use lib.ListN.{get_or-eq_default}
use borrow.Author.Rules.{rules}
use Rattle.decoding.proofs.end_at.Goals as goal

pub returns-else-k-ends : goal.returns-else-k-ends
returns-else-k-ends c = sym (get_or-eq_default c.args.ends.now 0 (search rules))
