-- `curves::line::is_point` meets its contract.
use mathlib.Core.Path.{◌≡◌, sym, ◌∙◌}
use mir.Syntax.{w64}
use mir.Val.{SFits}
use mir.ValLaws.{to_z-of_z}
use Rattle.curves.specs.Line.{is_coordinate, is_point}
use borrow.Author.Rules.{rules}
use Rattle.curves.proofs.line.is_point.Goals as goal

pub returns-then-is_coordinate : goal.returns-then-is_coordinate
unfolding is_point
returns-then-is_coordinate c =
    let x-is : is_coordinate c.args.p.x ≡ c.is_coordinate.result = let f : SFits w64 c.args.p.x = search rules in
    sym (c.is_coordinate.ensures ∙ rw (to_z-of_z w64 c.args.p.x f)) in
    let f : SFits w64 c.args.p.y = search rules in
    c.is_coordinate-then-is_coordinate.ensures ∙ rw (to_z-of_z w64 c.args.p.y f, x-is ∙ c.if-is_coordinate.true)

pub returns : goal.returns
unfolding is_point
returns c =
    let x-is : is_coordinate c.args.p.x ≡ c.is_coordinate.result = let f : SFits w64 c.args.p.x = search rules in
    sym (c.is_coordinate.ensures ∙ rw (to_z-of_z w64 c.args.p.x f)) in
    rw (x-is ∙ c.if-is_coordinate.false)
