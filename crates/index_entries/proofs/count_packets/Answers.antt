use mathlib.Core.Path.{◌≡◌}
use Prim.Native.Nat.{suc}
use native.Mathlib.Omega.{arith}
use Rattle.verdicts.specs.Answer.{most_rows}
use Rattle.index_entries.proofs.EntryLaws.{count_start, count_one, count_other}
use Rattle.index_entries.proofs.count_packets.Goals.{then-is_packet, else-is_packet}
use Rattle.index_entries.proofs.count_packets.Goals as goal

pub loop-row-init : goal.loop-row-init
loop-row-init c = (omega arith, omega arith, count_start _)

pub loop-row-preserved : goal.loop-row-preserved
loop-row-preserved c = elim c.if-is_packet.branch [
  | then-is_packet w ↦ (omega arith, omega (arith, w.count-is), count_one _ c.loop-row.invariant.2 c.is_packet.ensures w.if-is_packet.true w.count-is)
  | else-is_packet w ↦ (omega arith, omega (arith, w.count-is), count_other _ c.loop-row.invariant.2 c.is_packet.ensures w.if-is_packet.false w.count-is)
]

pub returns : goal.returns
returns c = let e : c.loop-row.row ≡ suc most_rows = omega arith in rw (← e) c.loop-row.invariant.2
