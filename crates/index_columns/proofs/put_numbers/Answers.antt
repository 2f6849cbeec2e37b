use Rattle.index_columns.proofs.PutLaws.{put_start, put_next, put_end}
use Rattle.index_columns.proofs.NumberLaws.{number_next, number_most}
use Rattle.index_columns.specs.Columns.{row_number_at}
use native.Mathlib.Omega.{arith}
use mathlib.Core.Path.{refl}
use Rattle.index_columns.proofs.put_numbers.Goals as goal

pub loop-i-init : goal.loop-i-init
unfolding row_number_at
loop-i-init c = (put_start _ _ _ _, refl, omega arith)

pub loop-i-preserved : goal.loop-i-preserved
loop-i-preserved c = (
  put_next _ _ _ _ _ _ c.loop-i.invariant.0 _ _ c.loop-i-test.true c.put_half.ensures c.loop-i.invariant.1,
  number_next _ _ _ _ _ _ c.loop-i.invariant.1 c.byte_at.ensures c.byte_at-in-loop-i.ensures c.next_number-number.ensures,
  number_most _ _ _ _ _ _ c.loop-i.invariant.1 c.byte_at.ensures c.byte_at-in-loop-i.ensures c.next_number-number.ensures c.loop-i.invariant.2,
)

pub returns : goal.returns
returns c = put_end _ _ _ _ _ _ c.loop-i.invariant.0 c.loop-i-test.false
