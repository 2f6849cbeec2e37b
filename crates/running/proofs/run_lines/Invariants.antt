-- The invariant: the lines left lead from here to where all lead.
use Rattle.std.proofs.Common.{◌≡◌, ◌-◌, ◌≤◌, length, drop}
use Rattle.lines.specs.Lines.{lines_of}
use Rattle.running.specs.Script.{after_lines, standing_in, first_standing}
use Rattle.running.proofs.run_lines.Given as goal

abbrev pub invariant-loop-from : goal.invariant-loop-from
invariant-loop-from g l = (l.from ≤ length l.text) × (l.number ≤ l.from) × (length l.space ≡ length l.initial.space)
    × (length l.ends ≡ length l.initial.ends)
    × (after_lines (standing_in l.text l.space l.ends l.s) (lines_of (drop l.from l.text)) ≡ after_lines (first_standing l.initial.space l.initial.ends) (lines_of l.text))

abbrev pub decreases-loop-from : goal.decreases-loop-from
decreases-loop-from g l = length l.text - l.from
