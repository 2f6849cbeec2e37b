-- An integer by its word; a string and a real never.
use mathlib.Core.Path.{◌∙◌}
use mir.Val.{SFits}
use mir.Syntax.{w64}
use Rattle.outcomes.specs.Values.{value_of}
use Rattle.readings.specs.Readings.{equals}
use Rattle.readings.proofs.ReadingLaws.{words_same}
use borrow.Author.Rules.{rules}
use Rattle.readings.proofs.equals.Goals as goal

pub returns-in-Number : goal.returns-in-Number
unfolding equals value_of
returns-in-Number c = let f : SFits w64 c.in-Number.v = search rules in
    words_same c.in-Number.v c.args.valpar f.sfits c.ranges.valpar.sfits ∙ rw c.in-Number.is

pub returns-in-Part : goal.returns-in-Part
unfolding equals value_of
returns-in-Part c = rw c.in-Part.is

pub returns-in-Bits : goal.returns-in-Bits
unfolding equals value_of
returns-in-Bits c = rw c.in-Bits.is
