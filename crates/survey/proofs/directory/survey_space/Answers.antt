-- The tables are those that stand in the space.
use Rattle.survey.proofs.LoadLaws.{of_same}
use Rattle.survey.proofs.directory.survey_space.Goals as goal

pub returns : goal.returns
returns g c = of_same c.tables_in.ensures c.survey_tables.ensures
