-- The invariant: the first i places are put.
use Rattle.index_columns.proofs.PutLaws.{Putting}
use lib.ListN.{get_or}
use Rattle.index_columns.proofs.put_halves.Given as goal

abbrev pub invariant-loop-i : goal.invariant-loop-i
invariant-loop-i l = Putting (λ k. get_or l.from k 0) l.place l.n l.initial.columns l.columns l.i
