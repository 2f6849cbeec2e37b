-- By what loading the tables answers.
use Rattle.calls.proofs.LoadLaws.{asked, refused}
use Rattle.answering.proofs.AnsweringLaws.{answering_same}
use Rattle.calls.proofs.ask.ask.Goals as goal

pub returns-in-Ok : goal.returns-in-Ok
returns-in-Ok c = answering_same _ _ (asked _ _ _ c.load_full.ensures c.in-Ok.is) _ _ _ _ c.answer_full.ensures

pub returns-in-Err : goal.returns-in-Err
returns-in-Err c = answering_same _ _ (refused _ _ _ c.load_full.ensures _ c.in-Err.is) _ _ _ _ c.refuse.ensures
