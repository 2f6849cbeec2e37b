-- Row after row from 1: so many are packets.
use mathlib.Core.Path.{◌≡◌}
use mathlib.Core.List.{map}
use Prim.Native.Nat.{suc, ◌-◌, ◌≤◌}
use Rattle.laws.specs.Prefix.{count_with}
use Rattle.verdicts.specs.Answer.{most_rows}
use Rattle.packet_index.specs.Index.{is_packet}
use Rattle.index_entries.specs.Loaded.{packets_in}
use Rattle.index_entries.proofs.count_packets.Given as goal

abbrev pub invariant-loop-row : goal.invariant-loop-row
invariant-loop-row l =
    (l.row ≤ suc most_rows) × (l.count ≤ l.row) × (l.count ≡ count_with (is_packet (packets_in (map (λ x. x.now) l.tables) l.words l.links l.columns)) l.row)

abbrev pub decreases-loop-row : goal.decreases-loop-row
decreases-loop-row l = suc most_rows - l.row
