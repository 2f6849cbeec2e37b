-- The first k places are written.
use Rattle.laws.proofs.Values.{Writing}
use Rattle.key_texts.specs.Shown.{shown_at}
use Rattle.key_texts.proofs.put_shown.Given as goal

abbrev pub invariant-loop-k : goal.invariant-loop-k
invariant-loop-k l = Writing (shown_at l.text) l.n l.initial.letters l.letters l.k
