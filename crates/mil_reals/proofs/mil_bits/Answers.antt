-- By the mantissa's first bit.
use mathlib.Core.Path.{◌≡◌, ◌∙◌}
use Prim.Native.Nat.{◌-◌, ◌*◌, ◌%◌, ◌^◌, ◌≤◌}
use native.Mathlib.Nat.{one-mul, mod-eq_of_lt}
use native.Mathlib.Omega.{arith}
use lib.Pow.{pow-lt, pow_mono}
use Rattle.fields.proofs.SignLaws.{double}
use Rattle.mil_reals.proofs.Exact.{plus_zero_lem, plus, minus}
use Rattle.mil_reals.proofs.mil_bits.Goals as goal

pub returns-then-m-eq0 : goal.returns-then-m-eq0
returns-then-m-eq0 c = rw c.if-m-eq0.true (plus_zero_lem _ _ (omega arith) (omega arith) (omega arith))

pub normalised-requires : goal.normalised-requires
normalised-requires c =
    let half_is : (1 * 2 ^ (c.args.width - 1)) % 2 ^ 64 ≡ 2 ^ (c.args.width - 1) = mod-eq_of_lt (omega (arith, pow-lt {i = c.args.width - 1} {j = 64} (omega arith))) ∙ one-mul (2 ^ (c.args.width - 1)) in
    let twice : 2 ^ c.args.width ≡ 2 ^ (c.args.width - 1) * 2 = double c.args.width (omega arith) in
    let narrow : 2 ^ c.args.width ≤ 2 ^ 53 = pow_mono {j = 53} (omega arith) in
    omega (arith, half_is, twice, narrow)

pub returns-then-m-half : goal.returns-then-m-half
returns-then-m-half c =
    let half_is : (1 * 2 ^ (c.args.width - 1)) % 2 ^ 64 ≡ 2 ^ (c.args.width - 1) = mod-eq_of_lt (omega (arith, pow-lt {i = c.args.width - 1} {j = 64} (omega arith))) ∙ one-mul (2 ^ (c.args.width - 1)) in
    plus c.args.width c.args.m c.args.x (omega arith) (omega arith) (omega arith) (omega arith) _ c.raised-up.ensures.0
    _ c.normalised.type_inv (omega (arith, half_is)) c.normalised.ensures

pub overflow_sub-half-2 : goal.overflow_sub-half-2
overflow_sub-half-2 c =
    let half_is : (1 * 2 ^ (c.args.width - 1)) % 2 ^ 64 ≡ 2 ^ (c.args.width - 1) = mod-eq_of_lt (omega (arith, pow-lt {i = c.args.width - 1} {j = 64} (omega arith))) ∙ one-mul (2 ^ (c.args.width - 1)) in
    let twice : 2 ^ c.args.width ≡ 2 ^ (c.args.width - 1) * 2 = double c.args.width (omega arith) in
    omega (arith, half_is, twice)

pub normalised-requires-2 : goal.normalised-requires-2
normalised-requires-2 c =
    let half_is : (1 * 2 ^ (c.args.width - 1)) % 2 ^ 64 ≡ 2 ^ (c.args.width - 1) = mod-eq_of_lt (omega (arith, pow-lt {i = c.args.width - 1} {j = 64} (omega arith))) ∙ one-mul (2 ^ (c.args.width - 1)) in
    let twice : 2 ^ c.args.width ≡ 2 ^ (c.args.width - 1) * 2 = double c.args.width (omega arith) in
    let narrow : 2 ^ c.args.width ≤ 2 ^ 53 = pow_mono {j = 53} (omega arith) in
    omega (arith, half_is, twice, narrow)

pub returns : goal.returns
returns c =
    let half_is : (1 * 2 ^ (c.args.width - 1)) % 2 ^ 64 ≡ 2 ^ (c.args.width - 1) = mod-eq_of_lt (omega (arith, pow-lt {i = c.args.width - 1} {j = 64} (omega arith))) ∙ one-mul (2 ^ (c.args.width - 1)) in
    minus c.args.width c.args.m c.args.x (omega arith) (omega arith) (omega arith) (omega arith) _ c.raised-up.ensures.0
    _ c.normalised-2.type_inv (omega (arith, half_is)) (rw half_is at c.normalised-2.ensures)
