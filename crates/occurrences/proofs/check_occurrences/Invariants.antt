-- The invariant: the occurrences left answer what all answer from the start.
use mathlib.Core.Path.{◌≡◌}
use Prim.Native.Nat.{◌-◌, ◌≤◌}
use Rattle.rows.specs.declared.records.PlfRow.{PlfRow}
use Rattle.raw_values.specs.RawValues.{raw_of, location_of}
use Rattle.curve_values.specs.Scale.{scale_in}
use Rattle.severity.specs.Checks.{checks_in, severity_in}
use Rattle.occurrences.proofs.PassLaws.{Passing}
use Rattle.occurrences.proofs.check_occurrences.Given as goal

abbrev pub invariant-loop-k : goal.invariant-loop-k
invariant-loop-k l =
    (l.k ≤ l.nbocc)
    × ((plf : PlfRow) → l.location ≡ location_of plf
    → Passing l.nbchck (severity_in (checks_in l.lows l.highs l.levels)) (scale_in l.scale l.xs l.ys) l.valid (raw_of l.p plf l.pcf) l.nbocc l.initial.pass l.pass l.k)

abbrev pub decreases-loop-k : goal.decreases-loop-k
decreases-loop-k l =
    l.nbocc - l.k
