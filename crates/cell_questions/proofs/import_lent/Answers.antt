-- By how many cells and positions are lent.
use mathlib.Core.Path.{sym, ◌∙◌}
use native.Mathlib.Omega.{arith}
use Rattle.cell_questions.proofs.CellReplyLaws.{import_lent_lem, cells_unread, positions_unread, cells_fit, positions_fit}
use Rattle.cell_questions.proofs.import_lent.Goals as goal

pub returns-in_default : goal.returns-in_default
returns-in_default g c = cells_unread _ _ _ _ _ (sym c.cells_lent.ensures ∙ c.in_default.is)

pub returns-in_default-positions_lent : goal.returns-in_default-positions_lent
returns-in_default-positions_lent g c = positions_unread _ _ _ _ _ c.in-Some.room (sym c.cells_lent.ensures ∙ c.in-Some.is)
    (sym c.positions_lent.ensures ∙ c.in_default-positions_lent.is)

pub import_part-requires : goal.import_part-requires
import_part-requires g c = record { room_in_bounds = omega (arith, cells_fit _ _ (sym c.cells_lent.ensures ∙ c.in-Some.is)); more_in_bounds = omega (arith, positions_fit _ _ (sym c.positions_lent.ensures ∙ c.in-Some-positions_lent.is)) }

pub returns : goal.returns
returns g c = c.import_part.ensures ∙ import_lent_lem _ _ _ _ _ c.in-Some.room c.in-Some-positions_lent.more
    (sym c.cells_lent.ensures ∙ c.in-Some.is) (sym c.positions_lent.ensures ∙ c.in-Some-positions_lent.is)
