-- The invariant: what is left of the text leads from here to where the whole leads.
use mathlib.Core.Path.{◌≡◌}
use Prim.Native.Nat.{◌≤◌}
use lib.ListN.{length, drop}
use Rattle.spoken.specs.Spoken.{matched_all}
use Rattle.spoken.proofs.fit.match_text.Given as goal

abbrev pub invariant-loop-i : goal.invariant-loop-i
invariant-loop-i l = (l.i ≤ length l.text) × (matched_all l.line l.at (drop l.i l.text) ≡ matched_all l.line l.from l.text)
