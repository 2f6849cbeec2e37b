-- What the first pass leaves is what the second reads.
use Rattle.judging.proofs.PassLaws.{bases_law}
use Rattle.judging.proofs.judge_bases.Goals as goal

pub returns : goal.returns
returns c = bases_law c.args.own.now c.args.sound.now c.args.counts.now c.args.next.now c.args.base.now c.args.n _ _
    c.mark_circles.ensures c.base_rows.ensures
