-- All cells and positions are blank at first.
use Rattle.cell_questions.specs.CellReplies.{blank_cells, import_reply}
use Rattle.cell_questions.proofs.judge_import.Goals as goal

pub returns : goal.returns
unfolding import_reply blank_cells
returns g c = c.import_lent.ensures
