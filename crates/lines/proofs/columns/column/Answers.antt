-- The part before the end; a column without an end, and one behind the end of the line, is empty.
use mathlib.Core.Path.{sym, ◌∙◌}
use Rattle.lines.proofs.ColumnLaws.{column_none, column_past, column_first, column_next}
use borrow.Author.Rules.{rules}
use Rattle.lines.proofs.columns.column.Goals as goal

pub returns-then-ends-k : goal.returns-then-ends-k
returns-then-ends-k c = let a = c.before.before.before.before.args in sym (column_none a.line.now a.ends.now a.k (search rules))

pub returns-then-k-eq0 : goal.returns-then-k-eq0
returns-then-k-eq0 c = let a = c.args in c.part.ensures ∙ column_first a.line.now a.ends.now a.k
    (search rules)

pub returns-then-line-before : goal.returns-then-line-before
returns-then-line-before c = let a = c.before.before.before.before.before.before.before.args in sym
    (column_past a.line.now a.ends.now a.k (search rules) (search rules))

pub returns : goal.returns
returns c = let a = c.args in c.part-2.ensures ∙ column_next a.line.now
    a.ends.now a.k (search rules)
