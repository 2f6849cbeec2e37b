-- `curves::line::is_segment` meets its contract.
use mathlib.Core.Path.{sym, ◌∙◌}
use mir.Syntax.{w64}
use mir.Val.{SFits}
use mir.ValLaws.{to_z-of_z}
use Rattle.curves.specs.Line.{is_segment}
use borrow.Author.Rules.{rules}
use Rattle.curves.proofs.line.is_segment.Goals as goal

pub returns-then-not-is_point : goal.returns-then-not-is_point
unfolding is_segment
returns-then-not-is_point c = rw (sym c.is_point.ensures ∙ c.if-not-is_point.true)

pub returns-then-not-is_point-2 : goal.returns-then-not-is_point-2
unfolding is_segment
returns-then-not-is_point-2 c = rw (
  sym c.is_point.ensures ∙ c.if-not-is_point.false,
  sym c.is_point-2.ensures ∙ c.if-not-is_point-2.true,
)

pub returns : goal.returns
unfolding is_segment
returns c = let a = c.args in
    let f : SFits w64 a.from.x = search rules in
    let g : SFits w64 a.to.x = search rules in
    c.less.ensures
    ∙ rw (
      to_z-of_z w64 a.from.x f,
      to_z-of_z w64 a.to.x g,
      sym c.is_point.ensures ∙ c.if-not-is_point.false,
      sym c.is_point-2.ensures ∙ c.if-not-is_point-2.false,
    )
