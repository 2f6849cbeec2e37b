-- `curves::line::on_line` meets its contract.
use lib.IntN.{ℤ}
use mathlib.Core.Path.{◌≡◌, sym, ap, ◌∙◌}
use mir.Syntax.{w64}
use mir.ValLaws.{to_z-of_z}
use Rattle.curves.specs.Line.{is_raw, height_at, result_of, said_on_line}
use Rattle.curves.proofs.LineLaws.{line_no_segment, line_no_raw, line_is}
use Rattle.curves.proofs.line.on_line.Goals as goal

pub returns-then-not-is_segment : goal.returns-then-not-is_segment
unfolding said_on_line
returns-then-not-is_segment c = line_no_segment _ _ _ (sym c.is_segment.ensures ∙ c.if-not-is_segment.true)

pub returns-then-not-lies_within : goal.returns-then-not-lies_within
unfolding said_on_line is_raw
returns-then-not-lies_within c =
    let raw_is : is_raw c.args.x ≡ c.lies_within.result = sym (c.lies_within.ensures ∙ rw (to_z-of_z w64 c.args.x c.ranges.x)) in
    line_no_raw _ _ _ (sym c.is_segment.ensures ∙ c.if-not-is_segment.false)
    (raw_is ∙ c.if-not-lies_within.true)

pub drawn-requires : goal.drawn-requires
unfolding is_raw
drawn-requires c =
    let raw_is : is_raw c.args.x ≡ c.lies_within.result = sym (c.lies_within.ensures ∙ rw (to_z-of_z w64 c.args.x c.ranges.x)) in (
      sym c.is_segment.ensures ∙ c.if-not-is_segment.false,
      rw (to_z-of_z w64 c.args.x c.ranges.x) (raw_is ∙ c.if-not-lies_within.false),
    )

pub returns : goal.returns
unfolding is_raw
returns c =
    let raw_is : is_raw c.args.x ≡ c.lies_within.result = sym (c.lies_within.ensures ∙ rw (to_z-of_z w64 c.args.x c.ranges.x)) in
    c.drawn.ensures
    ∙ ap (λ (z : ℤ). result_of (height_at c.args.from c.args.to z)) (to_z-of_z w64 c.args.x c.ranges.x)
    ∙ line_is _ _ _ (sym c.is_segment.ensures ∙ c.if-not-is_segment.false)
    (raw_is ∙ c.if-not-lies_within.false)
