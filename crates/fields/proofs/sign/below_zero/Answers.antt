-- `fields::sign::below_zero` meets its contract.
use mir.Syntax.{w64}
use mir.ValLaws.{to_z_pos}
use Rattle.laws.proofs.Words.{through_word}
use Rattle.fields.proofs.SignLaws.{minus_one}
use Rattle.fields.proofs.sign.below_zero.Goals as goal

pub overflow_sub-result : goal.overflow_sub-result
overflow_sub-result c = rw (to_z_pos w64 c.args.n c.requires, minus_one c.args.n) (record { sfits = c.requires })

pub returns : goal.returns
returns c = rw (to_z_pos w64 c.args.n c.requires, minus_one c.args.n) (through_word _ c.requires)
