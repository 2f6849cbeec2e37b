-- Case by case.
use Rattle.import.specs.Judged.{said_imported}
use Rattle.replies.specs.Replies.{only_answer}
use Rattle.replies.proofs.import_replies.say_only.Goals as goal

pub returns-in-Ok : goal.returns-in-Ok
unfolding only_answer said_imported
returns-in-Ok c = rw c.in-Ok.is c.say_cell.ensures

pub returns-in-Err : goal.returns-in-Err
unfolding only_answer said_imported
returns-in-Err c = rw (c.in-Err.is, ← c.number_of.ensures, ← c.place_of.ensures) c.refused.ensures
