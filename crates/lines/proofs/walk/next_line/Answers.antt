-- `lines::walk::next_line` meets its contract.
use borrow.Author.Tests.{lt-ltb, le-ltb}
use Rattle.lines.specs.Lines.{next_line}
use Rattle.lines.proofs.walk.next_line.Goals as goal

pub returns-then-end-table : goal.returns-then-end-table
unfolding next_line
returns-then-end-table c = rw (← c.line_end-end.ensures, lt-ltb _ _ c.if-end-table.true)

pub returns-else-end-table : goal.returns-else-end-table
unfolding next_line
returns-else-end-table c = rw (← c.line_end-end.ensures, le-ltb _ _ c.if-end-table.false)
