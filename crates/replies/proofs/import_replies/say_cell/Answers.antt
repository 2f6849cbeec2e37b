-- With its position; or a good cell, or its reason and column.
use mathlib.Core.Path.{◌∙◌}
use native.Mathlib.Omega.{arith}
use Rattle.replies.proofs.ReplyLaws.{cell_position, cell_zero, cell_reason}
use Rattle.replies.proofs.import_replies.say_cell.Goals as goal

pub returns-then-position-gt0 : goal.returns-then-position-gt0
returns-then-position-gt0 c = c.says.ensures ∙ cell_position c.args.cell c.args.position (λ e. omega arith)

pub returns-then-cell-eq0 : goal.returns-then-cell-eq0
returns-then-cell-eq0 c = simp (c.says-then-cell-eq0.ensures, c.one.ensures) (cell_zero c.args.cell c.args.position (omega arith) c.if-cell-eq0.true)

pub returns : goal.returns
returns c = simp (c.says-2.ensures, c.two.ensures) (cell_reason c.args.cell c.args.position (omega arith) c.if-cell-eq0.false)
