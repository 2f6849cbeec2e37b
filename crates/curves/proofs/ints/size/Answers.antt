-- `curves::ints::size` meets its contract.
use mathlib.Core.Path.{◌≡◌, sym, ap, ◌∙◌}
use Prim.Native.Nat.{◌+◌, ◌-◌, ◌^◌, ◌<◌}
use native.Mathlib.Omega.{arith}
use lib.IntN.{ℤ, pos, negsuc, nat_abs, ◌-ℤ◌}
use lib.Signed.{lt_z, nat_abs-le}
use mir.Syntax.{w64}
use mir.Val.{SFits, to_z, of_z}
use mir.ValLaws.{to_z-of_z}
use Rattle.laws.proofs.Words.{fits_size}
use Rattle.curves.proofs.IntLaws.{through, not_below_zero, flipped, flipped_size}
use Rattle.curves.proofs.ints.size.Goals as goal

-- a magnitude is at most 2 ^ 63, and one less fits a signed word
small : (z : ℤ) → SFits w64 z → nat_abs z - 1 < 2 ^ 63
small z h = omega (arith, nat_abs-le z h.sfits)

pub overflow_sub-result : goal.overflow_sub-result
overflow_sub-result c =
    let sign-is : lt_z (to_z w64 (of_z w64 c.args.a)) (pos 0) ≡ lt_z c.args.a (pos 0) = ap (λ (z : ℤ). lt_z z (pos 0)) (to_z-of_z w64 c.args.a c.ranges.a) in
    let less_one : negsuc 0 -ℤ to_z w64 (of_z w64 c.args.a) ≡ pos (nat_abs c.args.a - 1) = rw (to_z-of_z w64 c.args.a c.ranges.a) (flipped c.args.a (sym sign-is ∙ c.if-a-lt0.true)) in
    rw less_one (fits_size (pos (nat_abs c.args.a - 1)) (small c.args.a c.ranges.a))

pub overflow_cast-result : goal.overflow_cast-result
overflow_cast-result c =
    let sign-is : lt_z (to_z w64 (of_z w64 c.args.a)) (pos 0) ≡ lt_z c.args.a (pos 0) = ap (λ (z : ℤ). lt_z z (pos 0)) (to_z-of_z w64 c.args.a c.ranges.a) in
    let less_one : negsuc 0 -ℤ to_z w64 (of_z w64 c.args.a) ≡ pos (nat_abs c.args.a - 1) = rw (to_z-of_z w64 c.args.a c.ranges.a) (flipped c.args.a (sym sign-is ∙ c.if-a-lt0.true)) in
    rw (less_one, through (pos (nat_abs c.args.a - 1)) (small c.args.a c.ranges.a))
    (tt, record { fits = omega (arith, small c.args.a c.ranges.a) })

pub overflow_add-result : goal.overflow_add-result
overflow_add-result c =
    let sign-is : lt_z (to_z w64 (of_z w64 c.args.a)) (pos 0) ≡ lt_z c.args.a (pos 0) = ap (λ (z : ℤ). lt_z z (pos 0)) (to_z-of_z w64 c.args.a c.ranges.a) in
    let less_one : negsuc 0 -ℤ to_z w64 (of_z w64 c.args.a) ≡ pos (nat_abs c.args.a - 1) = rw (to_z-of_z w64 c.args.a c.ranges.a) (flipped c.args.a (sym sign-is ∙ c.if-a-lt0.true)) in
    let whole : nat_abs (to_z w64 (of_z w64 (negsuc 0 -ℤ to_z w64 (of_z w64 c.args.a)))) + 1 ≡ nat_abs c.args.a = rw (less_one, through (pos (nat_abs c.args.a - 1)) (small c.args.a c.ranges.a)) (flipped_size c.args.a (sym sign-is ∙ c.if-a-lt0.true)) in
    rw whole (record { fits = omega (arith, nat_abs-le c.args.a c.ranges.a.sfits) })

pub overflow_cast-result-else-a-lt0 : goal.overflow_cast-result-else-a-lt0
overflow_cast-result-else-a-lt0 c =
    let sign-is : lt_z (to_z w64 (of_z w64 c.args.a)) (pos 0) ≡ lt_z c.args.a (pos 0) = ap (λ (z : ℤ). lt_z z (pos 0)) (to_z-of_z w64 c.args.a c.ranges.a) in
    rw (to_z-of_z w64 c.args.a c.ranges.a)
    (not_below_zero c.args.a (sym sign-is ∙ c.if-a-lt0.false), record { fits = omega (arith, nat_abs-le c.args.a c.ranges.a.sfits) })

pub returns-then-a-lt0 : goal.returns-then-a-lt0
returns-then-a-lt0 c =
    let sign-is : lt_z (to_z w64 (of_z w64 c.args.a)) (pos 0) ≡ lt_z c.args.a (pos 0) = ap (λ (z : ℤ). lt_z z (pos 0)) (to_z-of_z w64 c.args.a c.ranges.a) in
    let less_one : negsuc 0 -ℤ to_z w64 (of_z w64 c.args.a) ≡ pos (nat_abs c.args.a - 1) = rw (to_z-of_z w64 c.args.a c.ranges.a) (flipped c.args.a (sym sign-is ∙ c.if-a-lt0.true)) in
    let whole : nat_abs (to_z w64 (of_z w64 (negsuc 0 -ℤ to_z w64 (of_z w64 c.args.a)))) + 1 ≡ nat_abs c.args.a = rw (less_one, through (pos (nat_abs c.args.a - 1)) (small c.args.a c.ranges.a)) (flipped_size c.args.a (sym sign-is ∙ c.if-a-lt0.true)) in
    whole
