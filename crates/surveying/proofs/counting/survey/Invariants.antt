-- What is still to be asked leads to where all of it leads.
use Rattle.std.proofs.Common.{◌-◌, map, length}
use Rattle.database.specs.Arrays.{database, answers}
use Rattle.surveying.proofs.SurveyLaws.{SurveysSo}
use Rattle.surveying.proofs.counting.survey.Given as goal

abbrev pub invariant-loop-end : goal.invariant-loop-end
invariant-loop-end l = SurveysSo
    (answers (database (map (λ x. x.now) l.tables) l.words l.links l.columns)) l.name l.question l.initial.tally l.bytes l.tally l.at

abbrev pub decreases-loop-end : goal.decreases-loop-end
decreases-loop-end l = length l.bytes - l.at
