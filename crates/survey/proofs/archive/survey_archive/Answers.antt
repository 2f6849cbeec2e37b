-- Of a file that can't be opened nothing is read.
use Rattle.surveying.proofs.ArchiveLaws.{surveyed_start}
use Rattle.survey.proofs.archive.survey_archive.Goals as goal

pub returns-in-Err : goal.returns-in-Err
returns-in-Err g c = surveyed_start _ _ _ c.at_start.ensures
