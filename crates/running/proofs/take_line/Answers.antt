-- By the line.
use Rattle.std.proofs.Common.{refl, ap, ◌∙◌, arith}
use Rattle.running.proofs.ScriptLaws.{no_wait, line_stood, taken_empty, taken_comment, taken_question, taken_setting, taken_unread}
use Rattle.running.specs.Script.{stood, unread_line}
use Rattle.scripts.specs.Words.{question_of, setting_of}
use Rattle.running.proofs.take_line.Goals as goal

pub returns-then-line-eq0 : goal.returns-then-line-eq0
returns-then-line-eq0 g c = record { tally_after = line_stood _ _ _ c.stands.ensures _ _ _ ∙ taken_empty _ _ c.if-line-eq0.true; from_value = λ w. absurd (no_wait _ _ _ c.stands.ensures w) }

pub returns-then-line-eq35 : goal.returns-then-line-eq35
returns-then-line-eq35 g c = record { tally_after = line_stood _ _ _ c.stands-then-line-eq35.ensures _ _ _ ∙ taken_comment _ _ (omega arith) c.if-line-eq35.true; from_value = λ w. absurd (no_wait _ _ _ c.stands-then-line-eq35.ensures w) }

pub returns-then-question_of-lt-QUESTIONS : goal.returns-then-question_of-lt-QUESTIONS
returns-then-question_of-lt-QUESTIONS g c = record { tally_after = taken_question _ _ (omega arith) c.if-line-eq35.false (omega (arith, c.question_of.ensures ∙ ap question_of c.word_of-word.ensures)); from_value = λ w. (refl, refl) }

pub returns-then-k-lt-SETTINGS : goal.returns-then-k-lt-SETTINGS
returns-then-k-lt-SETTINGS g c = let k = c.setting_of-k.ensures ∙ ap setting_of c.word_of-word.ensures in
    let q = c.question_of.ensures ∙ ap question_of c.word_of-word.ensures in record { tally_after = line_stood _ _ _ c.take_setting.ensures.value _ _ _ ∙ c.take_setting.ensures.tally_after ∙ rw k (taken_setting _ _ (omega arith) c.if-line-eq35.false (omega (arith, q)) (omega (arith, k))); from_value = λ w. absurd (no_wait _ _ _ c.take_setting.ensures.value w) }

pub returns : goal.returns
unfolding unread_line
returns g c = let e = c.stands-2.ensures ∙ ap (stood _) c.count.ensures in
    let k = c.setting_of-k.ensures ∙ ap setting_of c.word_of-word.ensures in
    let q = c.question_of.ensures ∙ ap question_of c.word_of-word.ensures in record { tally_after = line_stood _ _ _ e _ _ _ ∙ taken_unread _ _ (omega arith) c.if-line-eq35.false (omega (arith, q)) (omega (arith, k)); from_value = λ w. absurd (no_wait _ _ _ e w) }
