-- What each pass leaves is what the next ones read.
use Rattle.judging.proofs.PassLaws.{filled_long, names_law}
use Rattle.judging.proofs.judge_names.Goals as goal

pub slice_bounds-final_rows-end-2 : goal.slice_bounds-final_rows-end-2
slice_bounds-final_rows-end-2 c = filled_long 0 _ _ _ c.good_rows.ensures

pub returns : goal.returns
returns c = names_law c.args.kinds.now c.args.base.now c.args.codes1.now c.args.found1.now c.args.codes2.now c.args.found2.now c.args.next.now c.args.n c.args.cells.now _ _
    c.good_rows.ensures
    c.final_rows.ensures
