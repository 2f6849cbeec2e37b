use Rattle.laws.proofs.Values.{write_start, write_put, write_end}
use Rattle.kinds.proofs.kind_rows.Goals as goal

pub loop-i-init : goal.loop-i-init
loop-i-init c = write_start _ _ _

pub loop-i-preserved : goal.loop-i-preserved
loop-i-preserved c = write_put _ _ _ _ _ c.loop-i.invariant _ _ c.loop-i-test.true c.put_byte.ensures
    (rw (
      c.kinds_of-kind.ensures,
      c.row_at-in-loop-i.ensures,
      c.byte_at-in-loop-i-2.ensures,
      c.row_at.ensures,
      c.byte_at-in-loop-i.ensures,
      c.byte_at.ensures,
    ))

pub returns : goal.returns
returns c = write_end _ _ _ _ _ c.loop-i.invariant c.loop-i-test.false
