-- Case by case.
use Rattle.import.specs.Judged.{said_imported}
use Rattle.replies.specs.Replies.{imported_answer}
use Rattle.replies.proofs.import_replies.say_imported.Goals as goal

pub returns-in-Ok : goal.returns-in-Ok
unfolding imported_answer said_imported
returns-in-Ok c = simp (c.in-Ok.is, c.compose.ensures, c.two.ensures)

pub returns-in-Err : goal.returns-in-Err
unfolding imported_answer said_imported
returns-in-Err c = rw (c.in-Err.is, ← c.number_of.ensures, ← c.place_of.ensures) c.refused.ensures
