-- Case by case.
use mathlib.Core.Path.{ap, ◌∙◌}
use Rattle.hex_answers.specs.Hexadecimal.{double_answer}
use Rattle.outcomes.specs.Refusals.{refused_by}
use Rattle.engineering.specs.Engineering.{said_engineered}
use Rattle.replies.specs.Replies.{reply_of, engineered_answer}
use Rattle.replies.proofs.packet_replies.say_engineered.Goals as goal

pub returns-in-Is : goal.returns-in-Is
unfolding reply_of engineered_answer said_engineered
returns-in-Is c = rw (c.in-Ok.is, c.in-Is.is) c.say_value.ensures

pub returns-in-Double : goal.returns-in-Double
unfolding reply_of engineered_answer said_engineered
returns-in-Double c = rw (c.in-Ok.is, c.in-Double.is) (c.say_double.ensures ∙ ap double_answer c.bits_of.ensures)

pub returns-in-Text : goal.returns-in-Text
unfolding reply_of said_engineered
returns-in-Text c = rw (c.in-Ok.is, c.in-Text.is) c.say_text.ensures

pub returns-in-Err : goal.returns-in-Err
unfolding reply_of said_engineered refused_by
returns-in-Err c = rw c.in-Err.is c.refused_question.ensures
