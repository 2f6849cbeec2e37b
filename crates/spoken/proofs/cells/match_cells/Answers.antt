use mathlib.Core.Path.{refl, sym, ◌∙◌}
use native.Mathlib.Omega.{arith}
use lib.ListN.{length-take}
use Rattle.spoken.proofs.SpokenLaws.{cells_more, cells_none, positions_none}
use Rattle.spoken.proofs.cells.match_cells.Goals as goal

pub loop-i-init : goal.loop-i-init
loop-i-init c = (omega arith, refl)

pub returns-then-cells-i : goal.returns-then-cells-i
returns-then-cells-i c = sym (cells_none c.args.line.now c.loop-i.at c.args.cells.now c.args.positions.now c.args.n c.loop-i.i (omega (arith, length-take c.args.n c.args.cells.now)))
    ∙ c.loop-i.invariant.1

pub returns-then-positions-i : goal.returns-then-positions-i
returns-then-positions-i c = sym (positions_none c.args.line.now c.loop-i.at c.args.cells.now c.args.positions.now c.args.n c.loop-i.i (omega arith))
    ∙ c.loop-i.invariant.1

pub loop-i-preserved : goal.loop-i-preserved
loop-i-preserved c = (
  omega arith,
  rw (c.match_position-at.ensures, c.match_cell-after_cell.ensures)
      (sym (cells_more c.args.line.now c.loop-i.at c.args.cells.now c.args.positions.now c.args.n c.loop-i.i (omega arith) (omega arith) (omega arith)))
      ∙ c.loop-i.invariant.1,
)

pub returns : goal.returns
returns c = sym (cells_none c.args.line.now c.loop-i.at c.args.cells.now c.args.positions.now c.args.n c.loop-i.i (omega (arith, length-take c.args.n c.args.cells.now)))
    ∙ c.loop-i.invariant.1
