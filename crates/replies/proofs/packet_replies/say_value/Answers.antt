-- Case by case.
use mathlib.Core.Path.{ap, ◌∙◌}
use mir.Facts.{to_z-of_z}
use mir.Val.{SFits}
use mir.Syntax.{w64}
use Rattle.outcomes.specs.Values.{value_of}
use Rattle.answers.specs.Answers.{integer_answer}
use Rattle.replies.specs.Replies.{value_answer}
use borrow.Author.Rules.{rules}
use Rattle.replies.proofs.packet_replies.say_value.Goals as goal

pub returns-in-Number : goal.returns-in-Number
unfolding value_answer value_of
returns-in-Number c = let f : SFits w64 c.in-Number.v = search rules in
    rw c.in-Number.is (c.say_integer.ensures ∙ ap integer_answer (to_z-of_z f))

pub returns-in-Part : goal.returns-in-Part
unfolding value_answer value_of
returns-in-Part c = simp (c.in-Part.is, c.says.ensures, c.two.ensures)

pub returns-in-Bits : goal.returns-in-Bits
unfolding value_answer value_of
returns-in-Bits c = rw c.in-Bits.is c.say_bits.ensures
