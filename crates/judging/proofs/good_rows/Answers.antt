-- What each pass leaves is what the next ones read.
use Rattle.judging.proofs.PassLaws.{filled_long, good_law}
use Rattle.judging.proofs.good_rows.Goals as goal

pub slice_bounds-final_rows-end-2 : goal.slice_bounds-final_rows-end-2
slice_bounds-final_rows-end-2 c = filled_long 0 _ _ _ c.chained_rows.ensures

pub returns : goal.returns
returns c = good_law c.args.kinds.now c.args.base.now c.args.codes1.now c.args.found1.now c.args.codes2.now c.args.found2.now c.args.next.now c.args.n c.args.good.now _ _ _
    c.chained_rows.ensures
    c.final_rows.ensures
    c.mark_zeros.ensures
