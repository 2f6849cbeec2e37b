-- By the kind of the value.
use mir.Facts.{to_z-of_z}
use mir.Val.{SFits}
use mir.Syntax.{w64}
use Rattle.extraction.proofs.EngineerLaws.{value_number, value_part, value_bits}
use borrow.Author.Rules.{rules}
use Rattle.extraction.proofs.engineer.engineer_read.Goals as goal

pub returns-in-Number : goal.returns-in-Number
returns-in-Number c = let f : SFits w64 c.in-Number.z = search rules in
    value_number _ _ _ c.in-Number.is c.engineer_value.ensures (to_z-of_z f)

pub returns-in-Part : goal.returns-in-Part
returns-in-Part c = value_part _ _ _ _ c.in-Part.is

pub returns-in-Bits : goal.returns-in-Bits
returns-in-Bits c = value_bits _ _ _ _ c.in-Bits.is
