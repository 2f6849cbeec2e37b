-- Case by case.
use mathlib.Core.Path.{refl, ap}
use Rattle.identification.specs.Identification.{said_identified}
use Rattle.plain_answers.specs.Values.{of_identity}
use Rattle.telling.proofs.WordLaws.{kept}
use Rattle.telling.proofs.TellingLaws.{plain_refused, plain_values}
use borrow.Author.Rules.{rules}
use Rattle.plain_answers.proofs.tell_identified.Goals as goal

pub returns-in-Ok : goal.returns-in-Ok
unfolding said_identified of_identity
returns-in-Ok c = plain_values of_identity _ (ap said_identified c.in-Ok.is) c.tell.ensures
    (kept c.as_word-number.ensures (search rules)
    (kept c.as_word-packet.ensures (search rules)
    (kept c.as_word-apid.ensures (search rules)
    (kept c.as_word-ptype.ensures (search rules)
    (kept c.as_word-stype.ensures (search rules)
    (kept c.as_word-pi1.ensures (search rules)
    (kept c.as_word-pi2.ensures (search rules) refl)))))))

pub returns-in-Err : goal.returns-in-Err
unfolding said_identified
returns-in-Err c = plain_refused of_identity _ (ap said_identified c.in-Err.is) c.tell_refusal.ensures
