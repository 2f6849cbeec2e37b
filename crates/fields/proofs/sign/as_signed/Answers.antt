-- `fields::sign::as_signed` meets its contract: by the first bit.
use mathlib.Core.Path.{◌≡◌, ◌∙◌}
use Prim.Native.Nat.{ℕ, ◌-◌, ◌*◌, ◌%◌, ◌^◌, ◌≤◌}
use native.Mathlib.Omega.{arith}
use lib.Pow.{pow_pos, pow_mono}
use mir.Syntax.{w64}
use mir.ValLaws.{to_z_pos}
use Rattle.laws.proofs.Words.{kept}
use Rattle.fields.proofs.BitLaws.{one_shl}
use Rattle.fields.proofs.SignLaws.{double, complement_low, complement_high}
use Rattle.fields.proofs.sign.as_signed.Goals as goal

-- half of a field's numbers is at most half of a word's
low_half : (n : ℕ) → n ≤ 64 → 2 ^ (n - 1) ≤ 2 ^ 63
low_half n h = pow_mono {j = 63} (omega arith)

pub overflow_cast-result : goal.overflow_cast-result
overflow_cast-result c =
    let half_is : (1 * 2 ^ (c.args.width - 1)) % 2 ^ 64 ≡ 2 ^ (c.args.width - 1) = one_shl (c.args.width - 1) (omega arith) in
    omega (arith, low_half c.args.width c.requires.1, half_is)

pub overflow_sub-half-else-v-half : goal.overflow_sub-half-else-v-half
overflow_sub-half-else-v-half c =
    let half_is : (1 * 2 ^ (c.args.width - 1)) % 2 ^ 64 ≡ 2 ^ (c.args.width - 1) = one_shl (c.args.width - 1) (omega arith) in
    omega (arith, half_is, pow_pos (c.args.width - 1))

pub overflow_sub-half-else-v-half-2 : goal.overflow_sub-half-else-v-half-2
overflow_sub-half-else-v-half-2 c =
    let half_is : (1 * 2 ^ (c.args.width - 1)) % 2 ^ 64 ≡ 2 ^ (c.args.width - 1) = one_shl (c.args.width - 1) (omega arith) in
    omega (arith, half_is, double c.args.width c.requires.0)

pub below_zero-requires : goal.below_zero-requires
below_zero-requires c =
    let half_is : (1 * 2 ^ (c.args.width - 1)) % 2 ^ 64 ≡ 2 ^ (c.args.width - 1) = one_shl (c.args.width - 1) (omega arith) in
    omega (arith, half_is, low_half c.args.width c.requires.1, pow_pos (c.args.width - 1))

pub returns-then-v-half : goal.returns-then-v-half
returns-then-v-half c =
    let half_is : (1 * 2 ^ (c.args.width - 1)) % 2 ^ 64 ≡ 2 ^ (c.args.width - 1) = one_shl (c.args.width - 1) (omega arith) in
    to_z_pos w64 c.args.v (omega (arith, low_half c.args.width c.requires.1, half_is)) ∙ complement_low _
    _ (omega (arith, half_is))

pub returns-else-v-half : goal.returns-else-v-half
returns-else-v-half c =
    let half_is : (1 * 2 ^ (c.args.width - 1)) % 2 ^ 64 ≡ 2 ^ (c.args.width - 1) = one_shl (c.args.width - 1) (omega arith) in
    let a = c.args in
    kept c.below_zero.type_inv
    (c.below_zero.ensures ∙ rw half_is
    (complement_high a.width a.v (omega arith) (omega (arith, half_is)) (omega arith)))
