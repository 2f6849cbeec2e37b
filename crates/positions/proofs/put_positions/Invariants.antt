-- The first i places are written.
use mathlib.Core.List.{map}
use Rattle.laws.proofs.Values.{Writing}
use Rattle.positions.specs.Kept.{position_kept}
use Rattle.positions.proofs.put_positions.Given as goal

abbrev pub invariant-loop-i : goal.invariant-loop-i
invariant-loop-i l =
    Writing (position_kept (map (λ x. x.now) l.tables) l.halves l.bytes) l.n l.initial.positions l.positions l.i
