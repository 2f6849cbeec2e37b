-- The invariant: what is left of the template leads from here to where the whole leads.
use mathlib.Core.Path.{◌≡◌}
use Prim.Native.Nat.{◌-◌, ◌≤◌}
use lib.ListN.{length, drop}
use Rattle.spoken.specs.Spoken.{matched_all, spelled}
use Rattle.spoken.proofs.spelling.match_template.Given as goal

abbrev pub invariant-loop-i : goal.invariant-loop-i
invariant-loop-i l = (l.i ≤ length l.template) × (l.k ≤ l.i)
    × (matched_all l.line l.at (spelled l.k (drop l.i l.template) l.values) ≡ matched_all l.line l.from (spelled 0 l.template l.values))

abbrev pub decreases-loop-i : goal.decreases-loop-i
decreases-loop-i l = length l.template - l.i
