use Rattle.index_columns.proofs.PutLaws.{put_start, put_next, put_end}
use mathlib.Core.Path.{◌∙◌}
use Rattle.index_columns.proofs.put_tables.Goals as goal

pub loop-i-init : goal.loop-i-init
loop-i-init c = put_start _ _ _ _

pub loop-i-preserved : goal.loop-i-preserved
loop-i-preserved c = put_next _ _ _ _ _ _ c.loop-i.invariant _ _ c.loop-i-test.true c.put_half.ensures
    (c.wide.ensures ∙ c.byte_at.ensures)

pub returns : goal.returns
returns c = put_end _ _ _ _ _ _ c.loop-i.invariant c.loop-i-test.false
