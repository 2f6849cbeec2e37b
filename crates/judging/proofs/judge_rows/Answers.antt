-- The kinds are what the verdicts are judged by.
use Rattle.judging.proofs.PassLaws.{kinds_law}
use Rattle.judging.proofs.judge_rows.Goals as goal

pub returns : goal.returns
returns c = kinds_law c.args.own.now c.args.sound.now c.args.counts.now c.args.codes1.now c.args.found1.now c.args.codes2.now c.args.found2.now c.args.n _ c.args.cells.now
    c.args.marks.now _
    c.kind_rows.ensures
    c.judge_kinds.ensures
