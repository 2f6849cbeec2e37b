-- The seven values and the count.
use mathlib.Core.Path.{refl, ap, ◌∙◌}
use Rattle.plain_answers.specs.Values.{of_identity}
use Rattle.telling.specs.Answers.{with_these_values}
use Rattle.telling.proofs.WordLaws.{kept}
use Rattle.index_telling.specs.Values.{of_compared}
use borrow.Author.Rules.{rules}
use Rattle.index_telling.proofs.tell_found.Goals as goal

pub returns : goal.returns
unfolding of_compared of_identity
returns c = c.tell.ensures
    ∙ ap with_these_values
    (kept c.as_word-number.ensures (search rules)
    (kept c.as_word-packet.ensures (search rules)
    (kept c.as_word-apid.ensures (search rules)
    (kept c.as_word-ptype.ensures (search rules)
    (kept c.as_word-stype.ensures (search rules)
    (kept c.as_word-pi1.ensures (search rules)
    (kept c.as_word-pi2.ensures (search rules)
    (kept c.as_word-count.ensures (search rules) refl))))))))
