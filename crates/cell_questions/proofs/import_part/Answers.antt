-- The parts that are lent.
use native.Mathlib.Omega.{arith}
use lib.ListN.{length-take}
use Rattle.cell_questions.proofs.import_part.Goals as goal

pub slice_bounds-import_into-end-2 : goal.slice_bounds-import_into-end-2
slice_bounds-import_into-end-2 g c = omega (arith, length-take c.args.room c.args.cells.now)

pub slice_bounds-import_into-end-4 : goal.slice_bounds-import_into-end-4
slice_bounds-import_into-end-4 g c = omega (arith, length-take c.args.more c.args.positions.now)
