-- A loaded database answers what the tables do.
use Rattle.survey.proofs.LoadLaws.{of_loaded, of_refused}
use Rattle.survey.proofs.loaded.survey_tables.Goals as goal

pub returns-in-Ok : goal.returns-in-Ok
returns-in-Ok g c = of_loaded _ _ _ c.load_full.ensures c.in-Ok.is c.survey_archive.ensures

pub returns-in-Err : goal.returns-in-Err
returns-in-Err g c = of_refused _ c.refuse.ensures
