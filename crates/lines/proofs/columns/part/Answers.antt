-- Each test leaves one case.
use mathlib.Core.Path.{sym, ◌∙◌}
use native.Mathlib.Omega.{arith}
use Rattle.laws.proofs.Lists.{rest}
use Rattle.lines.proofs.ColumnLaws.{part_none, part_past, part_rest}
use Rattle.lines.proofs.columns.part.Goals as goal

pub returns-then-end-line : goal.returns-then-end-line
returns-then-end-line c = let a = c.before.before.before.args in sym (part_none a.line.now a.start a.end (omega arith))

pub returns-then-start-line : goal.returns-then-start-line
returns-then-start-line c = let a = c.args in rest a.line.now a.start ∙ sym (part_rest a.line.now a.start a.end (omega arith))

pub returns : goal.returns
returns c = let a = c.before.before.before.args in sym (part_past a.line.now a.start a.end (omega arith))
