-- `curves::line::below` meets its contract.
use mathlib.Core.Path.{ap, ap₂, ◌∙◌}
use lib.IntN.{◌-ℤ◌}
use mir.Syntax.{w64}
use mir.ValLaws.{to_z-of_z}
use Rattle.laws.proofs.Words.{kept}
use Rattle.curves.specs.Line.{result_of, said_on_line}
use Rattle.curves.proofs.LineLaws.{fits_below, far_below}
use Rattle.curves.proofs.line.below.Goals as goal

pub returns-then-n-ge4294967296 : goal.returns-then-n-ge4294967296
unfolding said_on_line
returns-then-n-ge4294967296 c = far_below c.args.y c.args.n c.requires c.if-n-ge4294967296.true

pub minus-requires : goal.minus-requires
minus-requires c = rw (to_z-of_z w64 c.args.y c.ranges.y, kept c.of_nat.type_inv c.of_nat.ensures) (fits_below c.args.y c.args.n c.requires c.if-n-ge4294967296.false)

pub returns : goal.returns
returns c = c.answer.ensures
    ∙ ap result_of (kept c.minus.type_inv (c.minus.ensures ∙ ap₂ ◌-ℤ◌ (to_z-of_z w64 c.args.y c.ranges.y)
    (kept c.of_nat.type_inv c.of_nat.ensures)))
