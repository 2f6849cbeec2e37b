-- Its number and one value.
use mathlib.Core.Path.{refl}
use Rattle.outcomes.specs.Refusals.{refusal_number}
use Rattle.telling.specs.Answers.{told_plainly}
use Rattle.telling.proofs.WordLaws.{kept}
use Rattle.index_telling.specs.Values.{of_compared}
use borrow.Author.Rules.{rules}
use Rattle.index_telling.proofs.tell_missing.Goals as goal

pub returns : goal.returns
unfolding of_compared told_plainly refusal_number
returns c = let v = kept c.as_word-count.ensures (search rules) refl in
    λ i. record { number = c.number_of.ensures i; place = 0; values = v i }
