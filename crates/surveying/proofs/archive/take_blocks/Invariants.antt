-- The bytes so far are surveyed, and what is left over of them stands in the block.
use Rattle.std.proofs.Common.{◌-◌, map}
use Rattle.database.specs.Arrays.{database, answers}
use Rattle.surveying.proofs.ArchiveLaws.{SurveyedSo}
use Rattle.surveying.proofs.archive.take_blocks.Given as goal

abbrev pub invariant-loop : goal.invariant-loop
invariant-loop g l =
    SurveyedSo (answers (database (map (λ x. x.now) l.tables) l.words l.links l.columns)) l.name l.question l.standing l.block

abbrev pub decreases-loop : goal.decreases-loop
decreases-loop g l =
    18446744073709551615 - l.counter
