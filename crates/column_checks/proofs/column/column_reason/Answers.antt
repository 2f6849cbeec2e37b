-- Each test is a case of the definition.
use native.Mathlib.Omega.{arith}
use borrow.Author.Tests.{eq-eqb, ne_eqb, lt-ltb, le-ltb}
use lib.ListN.{length}
use Rattle.column_checks.specs.ColumnKinds.{column_from}
use Rattle.column_checks.proofs.ReasonLaws.{empty_reason, full_reason}
use Rattle.column_checks.proofs.column.column_reason.Goals as goal

pub returns-then-mark-eq1 : goal.returns-then-mark-eq1
returns-then-mark-eq1 c = rw (empty_reason (column_from c.args.width c.args.mark c.args.kind) c.args.text.now (omega arith), eq-eqb c.args.mark 1 (omega arith))

pub returns-then-text-eq0 : goal.returns-then-text-eq0
returns-then-text-eq0 c = rw (empty_reason (column_from c.args.width c.args.mark c.args.kind) c.args.text.now (omega arith), ne_eqb c.args.mark 1 (omega arith))

pub returns-then-width-text : goal.returns-then-width-text
returns-then-width-text c = rw (full_reason (column_from c.args.width c.args.mark c.args.kind) c.args.text.now (omega arith), lt-ltb c.args.width (length c.args.text.now) (omega arith))

pub returns : goal.returns
returns c = rw (full_reason (column_from c.args.width c.args.mark c.args.kind) c.args.text.now (omega arith), le-ltb c.args.width (length c.args.text.now) (omega arith))
    c.kind_reason.ensures
