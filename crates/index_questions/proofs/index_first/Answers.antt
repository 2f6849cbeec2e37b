-- The part that is lent.
use native.Mathlib.Omega.{arith}
use lib.ListN.{length-take}
use Rattle.index_questions.proofs.index_first.Goals as goal

pub slice_bounds-index_into-end-2 : goal.slice_bounds-index_into-end-2
slice_bounds-index_into-end-2 c = omega (arith, length-take c.args.room c.args.rows.now)
