-- `fields::sign::twos_complement` meets its contract.
use mathlib.Core.Path.{ap, ◌∙◌}
use native.Mathlib.Omega.{arith}
use Rattle.laws.proofs.Words.{kept}
use Rattle.laws.specs.Said.{value}
use Rattle.fields.specs.Sign.{said_complement}
use Rattle.fields.proofs.FieldLaws.{width_none, width_over}
use Rattle.fields.proofs.SignLaws.{too_wide, fits, complement_no_width, complement_too_wide, complement_is}
use Rattle.fields.proofs.sign.twos_complement.Goals as goal

pub returns-then-width-eq0 : goal.returns-then-width-eq0
unfolding said_complement
returns-then-width-eq0 c = complement_no_width _ _ (width_none _ c.if-width-eq0.true)

pub returns-then-width-gt64 : goal.returns-then-width-gt64
unfolding said_complement
returns-then-width-gt64 c = complement_no_width _ _ (width_over _ c.if-width-gt64.true)

pub returns-then-v-width-gt1 : goal.returns-then-v-width-gt1
unfolding said_complement
returns-then-v-width-gt1 c = complement_too_wide _ _ (omega arith) (omega arith) (too_wide _ _ (omega arith) c.if-v-width-gt1.true)

pub as_signed-requires : goal.as_signed-requires
as_signed-requires c = (omega arith, omega arith, fits _ _ (omega arith) c.if-v-width-gt1.false)

pub returns : goal.returns
unfolding said_complement
returns c = ap value (kept c.as_signed.type_inv c.as_signed.ensures)
    ∙ complement_is _ _ (omega arith) (omega arith) (fits _ _ (omega arith) c.if-v-width-gt1.false)
