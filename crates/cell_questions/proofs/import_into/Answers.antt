-- The cells and positions as the import leaves them.
use Rattle.cell_questions.specs.CellReplies.{left_verdict, import_verdict}
use Rattle.cell_questions.proofs.import_into.Goals as goal

pub returns : goal.returns
unfolding import_verdict left_verdict
returns g c = cc
