-- Case by case.
use mir.Facts.{to_z-of_z}
use mir.Val.{SFits}
use mir.Syntax.{w64}
use Rattle.outcomes.specs.Values.{value_of}
use Rattle.replies.specs.Replies.{raw_answer}
use borrow.Author.Rules.{rules}
use Rattle.replies.proofs.packet_replies.say_raw.Goals as goal

pub returns-in-Number : goal.returns-in-Number
unfolding value_of
returns-in-Number c = let f : SFits w64 c.in-Number.v = search rules in
    simp (c.in-Number.is, c.say_raw_number.ensures, to_z-of_z f)

pub returns-in-Part : goal.returns-in-Part
unfolding value_of
returns-in-Part c = rw c.in-Part.is c.say_raw_part.ensures

pub returns-in-Bits : goal.returns-in-Bits
unfolding value_of raw_answer
returns-in-Bits c = rw c.in-Bits.is c.say_bits_read.ensures
