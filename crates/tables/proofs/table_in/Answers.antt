-- The part of the space from where the table starts to where it ends.
use Prim.Native.Nat.{ℕ, ◌*◌}
use mathlib.Core.Path.{ap, ◌∙◌}
use Rattle.lines.specs.Columns.{part_of}
use Rattle.tables.specs.Parts.{part_size, table_in}
use Rattle.tables.proofs.table_in.Goals as goal

pub returns : goal.returns
unfolding table_in
returns c = c.part.ensures ∙ ap (λ (e : ℕ). part_of c.args.space.now (c.args.t * part_size) e) c.end_at.ensures
