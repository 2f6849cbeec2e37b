-- `fields::sign::read_signed` meets its contract: by what the unsigned reading says of the field.
use native.Mathlib.Omega.{arith}
use lib.IntN.{pos}
use Rattle.laws.proofs.Words.{kept}
use Rattle.laws.specs.Said.{value}
use Rattle.fields.specs.Field.{said_unsigned, unsigned_at}
use Rattle.fields.specs.Sign.{said_signed}
use Rattle.fields.proofs.FieldLaws.{unsigned_read}
use Rattle.fields.proofs.SignLaws.{passed_on, signed_is, signed_error}
use mathlib.Core.Path.{◌≡◌, sym, ap, ◌∙◌}
use Rattle.fields.proofs.sign.read_signed.Goals as goal

pub returns-in_err-v : goal.returns-in_err-v
unfolding said_signed said_unsigned
returns-in_err-v c = ap said_signed (passed_on _ c.from_residual.ensures)
    ∙ signed_error _ _ _ _ (ap said_unsigned (sym c.in_err-v.was) ∙ c.read_unsigned.ensures)

pub as_signed-requires : goal.as_signed-requires
unfolding said_unsigned
as_signed-requires c =
    let the_number : (let a = c.args in value (pos c.in_ok-v.v) ≡ unsigned_at a.p.now a.at.0 a.width) = ap said_unsigned (sym c.in_ok-v.was) ∙ c.read_unsigned.ensures in
    let a = c.args in
    omega (arith, unsigned_read a.p.now a.at.0 a.width c.in_ok-v.v the_number)

pub returns : goal.returns
unfolding said_signed said_unsigned
returns c =
    let the_number : (let a = c.args in value (pos c.in_ok-v.v) ≡ unsigned_at a.p.now a.at.0 a.width) = ap said_unsigned (sym c.in_ok-v.was) ∙ c.read_unsigned.ensures in
    ap value (kept c.as_signed.type_inv c.as_signed.ensures) ∙ signed_is _ _ _ _ the_number
