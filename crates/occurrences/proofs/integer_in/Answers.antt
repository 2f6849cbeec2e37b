-- An integer by its word; a string and a real are none.
use mathlib.Core.Path.{ap, ◌∙◌}
use mir.Facts.{to_z-of_z}
use mir.Val.{SFits}
use mir.Syntax.{w64}
use Rattle.outcomes.specs.Outcome.{answer}
use Rattle.outcomes.specs.Refusals.{said, refused_by, refusal_number, refusal_place}
use Rattle.outcomes.specs.Values.{value_of}
use Rattle.occurrences.specs.Values.{integer_in}
use borrow.Author.Rules.{rules}
use Rattle.occurrences.proofs.integer_in.Goals as goal

pub returns-in-Number : goal.returns-in-Number
unfolding said integer_in value_of
returns-in-Number c = let f : SFits w64 c.in-Number.v = search rules in
    ap answer (to_z-of_z f) ∙ rw c.in-Number.is

pub returns-in-Part : goal.returns-in-Part
unfolding said integer_in value_of refused_by refusal_number refusal_place
returns-in-Part c = rw c.in-Part.is

pub returns-in-Bits : goal.returns-in-Bits
unfolding said integer_in value_of refused_by refusal_number refusal_place
returns-in-Bits c = rw c.in-Bits.is
