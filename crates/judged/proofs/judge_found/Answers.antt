-- By the columns.
use Rattle.judged.proofs.PassLaws.{judged_by_lem}
use Rattle.judged.proofs.judge_found.Goals as goal

pub returns : goal.returns
returns c = judged_by_lem c.args.halves.now c.args.bytes.now c.args.sound.now c.args.counts.now c.args.found1.now c.args.found2.now c.args.cells.now _ c.args.n _ _ _ _
    c.half_column.ensures c.byte_column.ensures c.byte_column-2.ensures
    c.byte_column-3.ensures
    c.judge_rows.ensures
