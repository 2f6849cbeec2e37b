-- What each pass leaves is what the next ones read.
use Rattle.judging.proofs.PassLaws.{rows_law}
use Rattle.judging.proofs.judge_kinds.Goals as goal

pub returns : goal.returns
returns c = rows_law c.args.own.now c.args.sound.now c.args.counts.now c.args.codes1.now c.args.found1.now c.args.codes2.now c.args.found2.now c.args.n
    c.args.kinds.now c.args.cells.now _ _ _
    c.next_rows.ensures
    c.judge_bases.ensures
    c.judge_names.ensures
