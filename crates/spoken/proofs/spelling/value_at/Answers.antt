-- Past the seventh there is none.
use mathlib.Core.Path.{◌≡◌, sym}
use native.Mathlib.Omega.{arith}
use lib.ListN.{length, get_or-eq_default}
use borrow.Author.Rules.{rules}
use Rattle.spoken.proofs.spelling.value_at.Goals as goal

pub returns : goal.returns
returns c = let s : length c.args.values ≡ 7 = search rules in
    sym (get_or-eq_default c.args.values 0 {n = c.args.k} (omega arith))
