-- What each pass leaves is what the next ones read.
use Rattle.judged.proofs.PassLaws.{formed_is, holders_same}
use Rattle.judged.proofs.holder_rows.Goals as goal

pub returns : goal.returns
returns c = let formed = formed_is c.args.halves.now c.args.n _ _ c.half_column.ensures
    c.mark_formed.ensures in
    holders_same _ _ c.args.halves.now c.args.holders.now _ c.args.n formed c.note_holders.ensures
