-- `curves::ints::lies_within` meets its contract.
use mathlib.Core.Path.{◌≡◌, sym, ◌∙◌}
use lib.Signed.{le_z}
use mir.Syntax.{w64}
use mir.Val.{to_z, of_z}
use mir.ValLaws.{to_z-of_z}
use Rattle.curves.specs.Line.{is_between}
use Rattle.curves.proofs.ints.lies_within.Goals as goal

pub returns-then-low-z : goal.returns-then-low-z
unfolding is_between
returns-then-low-z c =
    let low-is : le_z (to_z w64 (of_z w64 c.args.low)) (to_z w64 (of_z w64 c.args.z)) ≡ le_z c.args.low c.args.z = rw (to_z-of_z w64 c.args.low c.ranges.low, to_z-of_z w64 c.args.z c.ranges.z) in
    rw (to_z-of_z w64 c.args.z c.ranges.z, to_z-of_z w64 c.args.high c.ranges.high, sym low-is ∙ c.if-low-z.true)

pub returns-else-low-z : goal.returns-else-low-z
unfolding is_between
returns-else-low-z c =
    let low-is : le_z (to_z w64 (of_z w64 c.args.low)) (to_z w64 (of_z w64 c.args.z)) ≡ le_z c.args.low c.args.z = rw (to_z-of_z w64 c.args.low c.ranges.low, to_z-of_z w64 c.args.z c.ranges.z) in
    rw (sym low-is ∙ c.if-low-z.false)
