-- Where TO isn't below the raw value, and where the column stands in its line.
use mathlib.Core.Path.{◌≡◌, ap₂, sym, ◌∙◌}
use mathlib.Core.List.{map}
use native.Mathlib.Omega.{arith}
use lib.Signed.{lt_z}
use mir.Facts.{to_z-of_z}
use mir.Val.{SFits}
use mir.Syntax.{w64}
use Rattle.outcomes.specs.Refusals.{refusal_number, refusal_place, refused_by}
use Rattle.database.specs.Arrays.{row_at}
use Rattle.texts.specs.Texts.{to_of, said_text}
use Rattle.texts.proofs.AltxtLaws.{altxt_first, altxt_inside}
use Rattle.texts.proofs.TextLaws.{to_is, text_below, text_reached}
use borrow.Author.Rules.{rules}
use Rattle.texts.proofs.text_of.Goals as goal

pub returns-then-less : goal.returns-then-less
unfolding said_text refused_by refusal_number refusal_place
returns-then-less c =
    let below : (lt_z (to_of (row_at (map (λ x. x.now) c.args.tables) c.args.columns.now c.args.place)) c.args.raw ≡ c.less.result) = let f : SFits w64 c.txp_at-row.result.to = search rules in
    sym (c.less.ensures ∙ ap₂ lt_z (to_z-of_z f ∙ to_is _ c.txp_at-row.ensures.value) (to_z-of_z c.ranges.raw)) in
    text_below _ c.txp_at-row.ensures.value _ (below ∙ c.if-less.true)

pub overflow_add-start : goal.overflow_add-start
overflow_add-start c = omega (arith, c.start_of.ensures.1, altxt_first _ c.txp_at-row.ensures.value, altxt_inside _ c.txp_at-row.ensures.value, c.txp_at-row.ensures.i_len_bound)

pub overflow_sub-result : goal.overflow_sub-result
overflow_sub-result c = altxt_first _ c.txp_at-row.ensures.value

pub returns : goal.returns
unfolding said_text row_at
returns c =
    let below : (lt_z (to_of (row_at (map (λ x. x.now) c.args.tables) c.args.columns.now c.args.place)) c.args.raw ≡ c.less.result) = let f : SFits w64 c.txp_at-row.result.to = search rules in
    sym (c.less.ensures ∙ ap₂ lt_z (to_z-of_z f ∙ to_is _ c.txp_at-row.ensures.value) (to_z-of_z c.ranges.raw)) in
    text_reached _ c.txp_at-row.ensures.value _ (below ∙ c.if-less.false)
    c.number_of.ensures c.start_of.ensures.0
