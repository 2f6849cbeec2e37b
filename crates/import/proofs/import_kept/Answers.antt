-- By whether there are enough cells and positions.
use native.Mathlib.Omega.{arith}
use mathlib.Core.Path.{refl, sym}
use lib.Seq.{length-take-le}
use Rattle.import.specs.Judged.{AnswersBy}
use Rattle.import.proofs.import_kept.Goals as goal

pub returns-then-cells-n : goal.returns-then-cells-n
unfolding AnswersBy
returns-then-cells-n c = (refl, omega arith, refl, refl)

pub returns-then-positions-n : goal.returns-then-positions-n
unfolding AnswersBy
returns-then-positions-n c = (refl, omega arith, refl, refl)

pub slice_bounds-good_rows-end-2 : goal.slice_bounds-good_rows-end-2
slice_bounds-good_rows-end-2 c = sym (length-take-le _ _ (omega arith))

pub returns : goal.returns
unfolding AnswersBy
returns c = record {
  all = refl;
  enough = c.if-cells-n.false;
  enough' = c.if-positions-n.false;
  judged = c.judge_kept.ensures;
  placed = c.put_positions.ensures;
  zeros = c.good_rows-good.ensures;
}
