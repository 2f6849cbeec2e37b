-- By the id that is found.
use mathlib.Core.Path.{◌∙◌}
use native.Mathlib.Omega.{arith}
use Rattle.database.proofs.ColumnLaws.{keyed_in, keyed_out}
use Rattle.database.proofs.keyed_at.Goals as goal

pub returns-then-id-lt-SYMBOLS : goal.returns-then-id-lt-SYMBOLS
returns-then-id-lt-SYMBOLS c = (
  keyed_in _ _ _ _ _ (c.wide-id.ensures.0 ∙ c.find.ensures) c.if-id-lt-SYMBOLS.true
      c.column_at.ensures.0,
  c.column_at.ensures.1,
)

pub returns : goal.returns
returns c = (keyed_out _ _ _ _ _ (c.wide-id.ensures.0 ∙ c.find.ensures) c.if-id-lt-SYMBOLS.false, omega arith)
