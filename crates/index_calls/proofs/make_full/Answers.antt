-- Case by case.
use mathlib.Core.Path.{sym, ap, ◌∙◌}
use Rattle.outcomes.specs.Refusals.{said, refused_by, refusal_number, refusal_place}
use Rattle.index_calls.proofs.MakingLaws.{said_making, making_said, rows_after_lem}
use Rattle.index_calls.proofs.make_full.Goals as goal

pub returns-in-Some : goal.returns-in-Some
unfolding said said_making
returns-in-Some c = record { result_value = sym (ap said_making c.in-Some.is) ∙ ap said_making c.make_index.ensures.value ∙ making_said _ _; rows_after = c.make_index.ensures.rows_after ∙ rows_after_lem _ _ }

pub returns-in-None : goal.returns-in-None
unfolding said said_making refused_by refusal_number refusal_place
returns-in-None c = record { result_value = sym (ap said_making c.in-None.is) ∙ ap said_making c.make_index.ensures.value ∙ making_said _ _; rows_after = c.make_index.ensures.rows_after ∙ rows_after_lem _ _ }
