-- What each pass leaves is what the next ones read.
use Rattle.judged.proofs.PassLaws.{counts_by}
use Rattle.judged.proofs.count_cells.Goals as goal

pub returns : goal.returns
returns c = counts_by c.args.halves.now c.args.bytes.now c.args.n _ _ _ _ c.half_column.ensures
    c.byte_column.ensures c.half_column-2.ensures
    c.half_column-3.ensures
    c.args.sound.now c.args.counts.now _ _ c.count_ids.ensures c.count_rows.ensures
