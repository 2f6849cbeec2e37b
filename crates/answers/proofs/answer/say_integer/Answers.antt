-- A magnitude, and a minus before a negative one.
use mir.Facts.{to_z-of_z}
use mir.Val.{SFits}
use mir.Syntax.{w64}
use Rattle.answers.specs.Answers.{integer_answer}
use borrow.Author.Rules.{rules}
use Rattle.answers.proofs.answer.say_integer.Goals as goal

pub returns : goal.returns
unfolding integer_answer
returns c = let f : SFits w64 c.args.v = search rules in
    simp (c.says.ensures, c.one.ensures, c.size.ensures, c.less.ensures, to_z-of_z f)
