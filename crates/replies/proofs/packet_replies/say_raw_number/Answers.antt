-- By whether it is valid.
use mir.Facts.{to_z-of_z}
use mir.Val.{SFits}
use mir.Syntax.{w64}
use Rattle.replies.specs.Replies.{raw_answer}
use borrow.Author.Rules.{rules}
use Rattle.replies.proofs.packet_replies.say_raw_number.Goals as goal

pub returns-then-valid : goal.returns-then-valid
unfolding raw_answer
returns-then-valid c = let f : SFits w64 c.args.v = search rules in
    simp (c.if-valid.true, c.says.ensures, c.one.ensures, c.size-magnitude.ensures, c.less-negative.ensures, to_z-of_z f)

pub returns : goal.returns
unfolding raw_answer
returns c = let f : SFits w64 c.args.v = search rules in
    simp (c.if-valid.false, c.says-2.ensures, c.one-2.ensures, c.size-magnitude.ensures, c.less-negative.ensures, to_z-of_z f)
