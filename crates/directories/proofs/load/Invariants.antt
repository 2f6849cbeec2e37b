-- The invariant: the answers so far.
use Rattle.std.proofs.Common.{◌≡◌, ◌-◌, ◌≤◌, length}
use Rattle.verdicts.specs.Entries.{table_count}
use Rattle.directories.proofs.LoadLaws.{LoadedSo}
use Rattle.directories.proofs.load.Given as goal

abbrev pub invariant-loop-t : goal.invariant-loop-t
invariant-loop-t g l = (length l.space ≡ length l.initial.space) × (l.t ≤ table_count) × LoadedSo l.t l.ends l.whole l.initial.space l.space

abbrev pub decreases-loop-t : goal.decreases-loop-t
decreases-loop-t g l = table_count - l.t
