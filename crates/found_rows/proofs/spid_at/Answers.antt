-- The sixth column by where the columns of the line end.
use mathlib.Core.Path.{ap, ◌∙◌}
use mathlib.Core.List.{List}
use Prim.Native.Nat.{ℕ}
use Rattle.decoding.specs.Records.{pid_row}
use Rattle.rows.specs.declared.records.PidRow.{PidRow}
use Rattle.decoding.proofs.PlaceLaws.{pid_divided}
use Rattle.found_rows.proofs.DivideLaws.{found}
use Rattle.found_rows.proofs.spid_at.Goals as goal

pub returns : goal.returns
returns c = found c.divide_row-line.ensures (λ (l : List ℕ). (pid_row l).spid)
    (ap (λ (n : ℕ). record { 0 = n }) c.number_in.ensures ∙ ap (λ (row : PidRow). row.spid) (pid_divided _ c.divide_row-line.ensures.are_ends))
