-- The invariant: the rows of the tables passed are stored, and there is room for the symbols of the others.
use mathlib.Core.List.{map}
use Rattle.kept.specs.FirstPass.{arrays}
use Rattle.kept.proofs.AllKeptLaws.{Passed}
use Rattle.kept.proofs.kept.keep_tables.Given as goal

abbrev pub invariant-loop-t : goal.invariant-loop-t
invariant-loop-t l =
    Passed (map (λ x. x.now) l.tables) (arrays l.initial.words l.initial.links 0 l.initial.halves l.initial.bytes) (arrays l.words l.links l.symbols l.halves l.bytes) l.rows l.t
