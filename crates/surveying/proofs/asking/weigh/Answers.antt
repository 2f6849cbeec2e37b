-- Case by case.
use Rattle.std.proofs.Common.{nat_abs, ap, ◌∙◌, to_z-of_z, w64, SFits, rules}
use Rattle.outcomes.specs.Values.{value_of}
use Rattle.surveying.specs.Told.{weight_of}
use Rattle.surveying.proofs.asking.weigh.Goals as goal

pub returns-in-Number : goal.returns-in-Number
unfolding weight_of value_of
returns-in-Number c = let f : SFits w64 c.in-Number.v = search rules in
    rw c.in-Number.is (c.size.ensures ∙ ap nat_abs (to_z-of_z f))

pub returns-in-Part : goal.returns-in-Part
unfolding weight_of value_of
returns-in-Part c = rw c.in-Part.is

pub returns-in-Bits : goal.returns-in-Bits
unfolding weight_of value_of
returns-in-Bits c = rw c.in-Bits.is
