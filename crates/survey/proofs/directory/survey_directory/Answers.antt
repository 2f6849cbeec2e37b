-- By whether all tables were read.
use Rattle.survey.proofs.LoadLaws.{of_whole, of_unread}
use Rattle.survey.proofs.directory.survey_directory.Goals as goal

pub returns-then-loaded : goal.returns-then-loaded
returns-then-loaded g c = of_whole _ c.load_directory-loaded.ensures c.if-loaded.true c.survey_space.ensures

pub returns : goal.returns
returns g c = of_unread _ c.load_directory-loaded.ensures c.if-loaded.false c.at_start.ensures
