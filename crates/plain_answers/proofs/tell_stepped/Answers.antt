-- Case by case.
use mathlib.Core.Path.{refl, ap}
use Rattle.accepting.specs.Answer.{said_step}
use Rattle.std.specs.Prelude.{Result}
use Rattle.outcomes.specs.declared.Refusal.{Refusal}
use Rattle.plain_answers.specs.Values.{of_state}
use Rattle.telling.proofs.WordLaws.{kept}
use Rattle.telling.proofs.TellingLaws.{plain_refused, plain_values}
use borrow.Author.Rules.{rules}
use Rattle.plain_answers.proofs.tell_stepped.Goals as goal

pub returns-in-Ok : goal.returns-in-Ok
unfolding said_step of_state
returns-in-Ok c = plain_values of_state _ (ap (λ (x : Result (Unit {0}) Refusal). said_step x c.args.stepped.state) c.in-Ok.is) c.tell.ensures
    (kept c.as_flag-fresh.ensures (search rules)
    (kept c.as_word-apid.ensures (search rules)
    (kept c.as_word-count.ensures (search rules)
    (kept c.as_word-run.ensures (search rules)
    (kept c.as_word-announced.ensures (search rules) refl)))))

pub returns-in-Err : goal.returns-in-Err
unfolding said_step
returns-in-Err c = plain_refused of_state _
    (ap (λ (x : Result (Unit {0}) Refusal). said_step x c.args.stepped.state) c.in-Err.is)
    c.tell_refusal.ensures
