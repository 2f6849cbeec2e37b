-- The integer doubled, or from below -1 with one more.
use native.Mathlib.Omega.{arith}
use lib.IntN.{negsuc, ◌-ℤ◌}
use mir.Facts.{to_z-of_z}
use mir.Syntax.{w64}
use mir.Val.{to_z, of_z}
use Rattle.key_symbols.proofs.WordLaws.{Doubled, doubled_up, doubled_down}
use Rattle.key_symbols.proofs.words.integer_word.Goals as goal

pub overflow_sub-result : goal.overflow_sub-result
overflow_sub-result c =
    let down : Doubled c.args.x (negsuc 0 -ℤ to_z w64 (of_z w64 c.args.x)) 1 = rw (to_z-of_z c.ranges.x) (doubled_down _ c.ranges.x (rw (to_z-of_z c.ranges.x) at c.if-x-lt0.true)) in
    down.fits

pub overflow_cast-result : goal.overflow_cast-result
overflow_cast-result c =
    let down : Doubled c.args.x (negsuc 0 -ℤ to_z w64 (of_z w64 c.args.x)) 1 = rw (to_z-of_z c.ranges.x) (doubled_down _ c.ranges.x (rw (to_z-of_z c.ranges.x) at c.if-x-lt0.true)) in
    let d = down in rw (to_z-of_z d.fits) (d.up, record { fits = omega (arith, d.room) })

pub overflow_mul-result : goal.overflow_mul-result
overflow_mul-result c =
    let down : Doubled c.args.x (negsuc 0 -ℤ to_z w64 (of_z w64 c.args.x)) 1 = rw (to_z-of_z c.ranges.x) (doubled_down _ c.ranges.x (rw (to_z-of_z c.ranges.x) at c.if-x-lt0.true)) in
    let d = down in rw (to_z-of_z d.fits) (record { fits = omega (arith, d.room) })

pub overflow_add-result : goal.overflow_add-result
overflow_add-result c =
    let down : Doubled c.args.x (negsuc 0 -ℤ to_z w64 (of_z w64 c.args.x)) 1 = rw (to_z-of_z c.ranges.x) (doubled_down _ c.ranges.x (rw (to_z-of_z c.ranges.x) at c.if-x-lt0.true)) in
    let d = down in rw (to_z-of_z d.fits) (record { fits = d.room })

pub returns-then-x-lt0 : goal.returns-then-x-lt0
returns-then-x-lt0 c =
    let down : Doubled c.args.x (negsuc 0 -ℤ to_z w64 (of_z w64 c.args.x)) 1 = rw (to_z-of_z c.ranges.x) (doubled_down _ c.ranges.x (rw (to_z-of_z c.ranges.x) at c.if-x-lt0.true)) in
    let d = down in rw (to_z-of_z d.fits) d.word

pub overflow_cast-result-2 : goal.overflow_cast-result-2
overflow_cast-result-2 c =
    let up : Doubled c.args.x (to_z w64 (of_z w64 c.args.x)) 0 = rw (to_z-of_z c.ranges.x) (doubled_up _ c.ranges.x (rw (to_z-of_z c.ranges.x) at c.if-x-lt0.false)) in
    (up.up, record { fits = omega (arith, up.room) })

pub overflow_mul-result-2 : goal.overflow_mul-result-2
overflow_mul-result-2 c =
    let up : Doubled c.args.x (to_z w64 (of_z w64 c.args.x)) 0 = rw (to_z-of_z c.ranges.x) (doubled_up _ c.ranges.x (rw (to_z-of_z c.ranges.x) at c.if-x-lt0.false)) in
    record { fits = omega (arith, up.room) }

pub returns : goal.returns
returns c =
    let up : Doubled c.args.x (to_z w64 (of_z w64 c.args.x)) 0 = rw (to_z-of_z c.ranges.x) (doubled_up _ c.ranges.x (rw (to_z-of_z c.ranges.x) at c.if-x-lt0.false)) in
    omega (arith, up.word)
