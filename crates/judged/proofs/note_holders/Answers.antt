-- By the columns of the keys.
use Rattle.judged.proofs.PassLaws.{holders_noted}
use Rattle.judged.proofs.note_holders.Goals as goal

pub returns : goal.returns
returns c = holders_noted c.args.marks.now c.args.halves.now c.args.n _ _ c.half_column.ensures
    c.half_column-2.ensures
    c.args.holders.now _ _ c.note_rows.ensures c.note_rows-2.ensures
