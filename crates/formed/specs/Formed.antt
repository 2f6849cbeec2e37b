-- The verdict of reasons 1 to 8.
use Rattle.std.specs.Prelude.{ℕ, eqb, cond}
use Rattle.lines.specs.Lines.{Line}
use Rattle.schemas.specs.declared.Table.{Table}
use Rattle.schemas.specs.Tables.{schema}
use Rattle.schemas.specs.Reasons.{shape, reason_at}
use Rattle.contradictions.specs.Contradictions.{contradiction}

-- a verdict of reasons 1 to 7, or else 8 at the column that contradicts, if one does
unfoldable pub or_contradiction : ℕ → ℕ → ℕ
or_contradiction shaped column = cond (eqb shaped 0) (cond (eqb column 0) 0 (reason_at 8 column)) shaped

-- 01: "8 columns contradict, lowest column", after reasons 1 to 7; 0 where the row is well-formed
unfoldable pub formed : Table → Line → ℕ
formed table line = or_contradiction (shape (schema table) line) (contradiction table line.bytes)
