-- What each pass leaves is what the next ones read.
use Rattle.judging.proofs.PassLaws.{chained_law}
use Rattle.judging.proofs.chained_rows.Goals as goal

pub returns : goal.returns
returns c = chained_law c.args.kinds.now c.args.base.now c.args.codes1.now c.args.found1.now c.args.codes2.now c.args.found2.now c.args.next.now c.args.n c.args.chained.now _ _ _
    c.mark_zeros.ensures
    c.firm_rows.ensures
    c.mark_firm.ensures
