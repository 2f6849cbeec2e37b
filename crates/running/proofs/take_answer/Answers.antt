-- The question is asked, and counted by the verdict.
use Rattle.std.proofs.Common.{ap, ◌∙◌}
use Rattle.running.proofs.ScriptLaws.{stood_self, answered_is}
use Rattle.running.specs.Script.{stood}
use Rattle.scripts.specs.Words.{question_of}
use Rattle.running.proofs.take_answer.Goals as goal

pub returns : goal.returns
returns g c = record {
  tally_value = answered_is _ _ _ _ _ _ _ _ c.judge-judged.result (c.question_of-k.ensures ∙ ap question_of c.word_of.ensures)
      (rw (c.tables_in.ensures, c.area_in-packet.ensures, c.text_of.ensures) at c.judge-judged.ensures) (c.stands.ensures ∙ ap (stood _) c.count.ensures);
  value = stood_self _ _ _ c.stands.ensures;
}
