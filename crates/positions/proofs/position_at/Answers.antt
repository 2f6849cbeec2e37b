-- By the reason of the row's own columns.
use mathlib.Core.Path.{ap}
use Prim.Native.Nat.{ℕ, ◌/◌}
use Rattle.schemas.proofs.PositionLaws.{tells, tells_not}
use Rattle.verdicts.specs.Positions.{position_by}
use Rattle.positions.specs.Kept.{position_kept}
use Rattle.positions.proofs.position_at.Goals as goal

pub returns-in-6 : goal.returns-in-6
unfolding position_kept position_by
returns-in-6 c = rw (
  tells (ap (λ (v : ℕ). v / 256) c.half-verdict.ensures) c.in-6.is,
  c.low_half.ensures,
  c.position_on.ensures,
  c.spoken_column.ensures,
  c.table_at.ensures,
  c.kind_of.ensures,
  c.half-start.ensures,
  c.byte-t.ensures,
  c.half-verdict.ensures,
)

pub returns-in_default : goal.returns-in_default
unfolding position_kept position_by
returns-in_default c = rw (tells_not (ap (λ (v : ℕ). v / 256) c.half-verdict.ensures) c.in_default.in_default-own.rest.1)
