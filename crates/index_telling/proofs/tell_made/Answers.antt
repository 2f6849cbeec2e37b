-- Case by case.
use mathlib.Core.Path.{refl, ap}
use Rattle.outcomes.specs.Refusals.{said}
use Rattle.telling.proofs.WordLaws.{kept}
use Rattle.telling.proofs.TellingLaws.{plain_refused, plain_values}
use Rattle.index_telling.specs.Values.{of_entries}
use borrow.Author.Rules.{rules}
use Rattle.index_telling.proofs.tell_made.Goals as goal

pub returns-in-Ok : goal.returns-in-Ok
unfolding said of_entries
returns-in-Ok c = plain_values of_entries _ (ap said c.in-Ok.is) c.tell.ensures (kept c.as_word-entries.ensures (search rules) refl)

pub returns-in-Err : goal.returns-in-Err
unfolding said
returns-in-Err c = plain_refused of_entries _ (ap said c.in-Err.is) c.tell_refusal.ensures
