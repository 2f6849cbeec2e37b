-- A number is kept; a string and a real are never equal.
use mir.Facts.{to_z-of_z}
use mir.Syntax.{w64}
use mir.Val.{SFits}
use Rattle.outcomes.specs.Values.{value_of}
use Rattle.readings.specs.Readings.{equals, agrees, with_validity}
use Rattle.located_readings.specs.Asked.{asked_agrees}
use Rattle.located_readings.proofs.FollowLaws.{string_disagrees, real_disagrees}
use borrow.Author.Rules.{rules}
use Rattle.located_readings.proofs.follow.value_asked.Goals as goal

pub returns-in-Number : goal.returns-in-Number
unfolding asked_agrees agrees equals with_validity value_of
returns-in-Number c valid valpar = let f : SFits w64 c.in-Number.v = search rules in
    rw (c.in-Number.is, to_z-of_z f)

pub returns-in-Part : goal.returns-in-Part
unfolding value_of asked_agrees
returns-in-Part c valid valpar = rw c.in-Part.is (string_disagrees _ _ _ _)

pub returns-in-Bits : goal.returns-in-Bits
unfolding value_of asked_agrees
returns-in-Bits c valid valpar = rw c.in-Bits.is (real_disagrees _ _ _ _)
