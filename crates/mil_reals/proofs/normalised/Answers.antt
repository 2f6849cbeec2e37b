-- The leading zeros say where the highest set bit is.
use mathlib.Core.Path.{◌≡◌}
use mathlib.Core.Bool.{Bool, true, false, cond}
use Prim.Native.Nat.{◌+◌, ◌-◌, ◌*◌, ◌%◌, ◌^◌}
use native.Mathlib.Omega.{arith}
use native.Mathlib.Nat.{zero-add}
use lib.Count.{count_leading_zeros}
use lib.Ieee.{binary64, of_bits}
use lib.Ieee.Exact.{HasValue}
use Rattle.mil_reals.proofs.Normal.{Placed, placed, kept, bits_at, normal}
use Rattle.mil_reals.proofs.normalised.Goals as goal

pub overflow_cast-zeros : goal.overflow_cast-zeros
overflow_cast-zeros c =
    let place : Placed c.args.a (count_leading_zeros 64 c.args.a) = placed c.args.a c.requires.0 c.requires.1 in
    omega (arith, place)

pub overflow_sub-digits : goal.overflow_sub-digits
overflow_sub-digits c =
    let place : Placed c.args.a (count_leading_zeros 64 c.args.a) = placed c.args.a c.requires.0 c.requires.1 in
    omega (arith, place)

pub overflow_shl-digits : goal.overflow_shl-digits
overflow_shl-digits c =
    let place : Placed c.args.a (count_leading_zeros 64 c.args.a) = placed c.args.a c.requires.0 c.requires.1 in
    omega (arith, place)

pub overflow_sub-bits : goal.overflow_sub-bits
overflow_sub-bits c =
    let place : Placed c.args.a (count_leading_zeros 64 c.args.a) = placed c.args.a c.requires.0 c.requires.1 in
    omega (arith, place)

pub overflow_sub-bits-2 : goal.overflow_sub-bits-2
overflow_sub-bits-2 c =
    let place : Placed c.args.a (count_leading_zeros 64 c.args.a) = placed c.args.a c.requires.0 c.requires.1 in
    let whole : (c.args.a * 2 ^ (count_leading_zeros 64 c.args.a - 11)) % 2 ^ 64 ≡ c.args.a * 2 ^ (count_leading_zeros 64 c.args.a - 11) = kept c.args.a c.requires.0 c.requires.1 in
    omega (arith, place, whole)

pub overflow_add-bits-2 : goal.overflow_add-bits-2
overflow_add-bits-2 c =
    let place : Placed c.args.a (count_leading_zeros 64 c.args.a) = placed c.args.a c.requires.0 c.requires.1 in
    let whole : (c.args.a * 2 ^ (count_leading_zeros 64 c.args.a - 11)) % 2 ^ 64 ≡ c.args.a * 2 ^ (count_leading_zeros 64 c.args.a - 11) = kept c.args.a c.requires.0 c.requires.1 in
    omega (arith, place, whole)

pub overflow_add-result : goal.overflow_add-result
overflow_add-result c =
    let place : Placed c.args.a (count_leading_zeros 64 c.args.a) = placed c.args.a c.requires.0 c.requires.1 in
    let whole : (c.args.a * 2 ^ (count_leading_zeros 64 c.args.a - 11)) % 2 ^ 64 ≡ c.args.a * 2 ^ (count_leading_zeros 64 c.args.a - 11) = kept c.args.a c.requires.0 c.requires.1 in
    omega (arith, place, whole)

pub returns-then-negative : goal.returns-then-negative
returns-then-negative c =
    let whole : (c.args.a * 2 ^ (count_leading_zeros 64 c.args.a - 11)) % 2 ^ 64 ≡ c.args.a * 2 ^ (count_leading_zeros 64 c.args.a - 11) = kept c.args.a c.requires.0 c.requires.1 in
    let value : (s : Bool) → HasValue (of_bits binary64 (cond s (2 ^ 63) 0 + bits_at c.args.a c.args.raised (count_leading_zeros 64 c.args.a))) s (c.args.a * 2 ^ c.args.raised) (2 ^ 1074) = λ s. normal c.args.a c.args.raised c.requires.0 c.requires.1 c.requires.2 c.requires.3 s in
    rw (c.if-negative.true, whole) (value true)

pub returns : goal.returns
returns c =
    let whole : (c.args.a * 2 ^ (count_leading_zeros 64 c.args.a - 11)) % 2 ^ 64 ≡ c.args.a * 2 ^ (count_leading_zeros 64 c.args.a - 11) = kept c.args.a c.requires.0 c.requires.1 in
    let value : (s : Bool) → HasValue (of_bits binary64 (cond s (2 ^ 63) 0 + bits_at c.args.a c.args.raised (count_leading_zeros 64 c.args.a))) s (c.args.a * 2 ^ c.args.raised) (2 ^ 1074) = λ s. normal c.args.a c.args.raised c.requires.0 c.requires.1 c.requires.2 c.requires.3 s in
    let n = bits_at c.args.a c.args.raised (count_leading_zeros 64 c.args.a) in
    rw (c.if-negative.false, whole, ← zero-add n) (value false)
