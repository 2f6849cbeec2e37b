-- `curves::line::answer` meets its contract.
use mathlib.Core.Path.{◌≡◌, sym, ◌∙◌}
use lib.IntN.{pos, negsuc}
use mir.Syntax.{w64}
use mir.ValLaws.{to_z-of_z}
use Rattle.curves.specs.Line.{is_between, result_of, said_on_line}
use Rattle.curves.proofs.line.answer.Goals as goal

pub returns-then-lies_within : goal.returns-then-lies_within
unfolding result_of said_on_line
returns-then-lies_within c =
    let in_range : is_between (negsuc 2147483647) (pos 2147483647) c.args.y ≡ c.lies_within.result = sym (c.lies_within.ensures ∙ rw (to_z-of_z w64 c.args.y c.ranges.y)) in
    rw (to_z-of_z w64 c.args.y c.ranges.y, in_range ∙ c.if-lies_within.true)

pub returns : goal.returns
unfolding result_of said_on_line
returns c =
    let in_range : is_between (negsuc 2147483647) (pos 2147483647) c.args.y ≡ c.lies_within.result = sym (c.lies_within.ensures ∙ rw (to_z-of_z w64 c.args.y c.ranges.y)) in
    rw (in_range ∙ c.if-lies_within.false)
