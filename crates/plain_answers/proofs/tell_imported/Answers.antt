-- Case by case.
use mathlib.Core.Path.{refl, ap}
use Rattle.std.specs.Prelude.{Result}
use Rattle.outcomes.specs.Refusals.{refused_by}
use Rattle.outcomes.specs.declared.Refusal.{Refusal}
use Rattle.import.specs.Judged as import
use Rattle.import.specs.declared.Imported.{Imported}
use Rattle.plain_answers.specs.Values.{counts_of, of_counts}
use Rattle.telling.proofs.WordLaws.{kept}
use Rattle.telling.proofs.TellingLaws.{plain_refused, plain_values}
use borrow.Author.Rules.{rules}
use Rattle.plain_answers.proofs.tell_imported.Goals as goal

pub returns-in-Ok : goal.returns-in-Ok
unfolding counts_of of_counts import.said_imported
returns-in-Ok c = plain_values of_counts _ (ap (λ (x : Result Imported Refusal). counts_of (import.said_imported x)) c.in-Ok.is) c.tell.ensures
    (kept c.as_word-all.ensures (search rules) (kept c.as_word-fine.ensures (search rules) refl))

pub returns-in-Err : goal.returns-in-Err
unfolding counts_of import.said_imported refused_by
returns-in-Err c = plain_refused of_counts _ (ap (λ (x : Result Imported Refusal). counts_of (import.said_imported x)) c.in-Err.is) c.tell_refusal.ensures
