-- The cells and positions as the import leaves them.
use Rattle.cell_questions.proofs.CellReplyLaws.{row_is}
use Rattle.cell_questions.proofs.row_into.Goals as goal

pub returns : goal.returns
returns g c = row_is _ _ _ _ c.import-imported.ensures.result_value c.import-imported.ensures.cells_after c.import-imported.ensures.positions_after c.half_at.ensures c.half_at-2.ensures
    c.say_only-answer.ensures c.table_at.ensures c.compare.ensures
