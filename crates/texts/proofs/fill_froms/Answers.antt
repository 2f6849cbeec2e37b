use mathlib.Core.Path.{◌≡◌, ◌∙◌}
use mir.Facts.{to_z-of_z}
use mir.Val.{SFits, to_z, of_z}
use mir.Syntax.{w64}
use borrow.Author.Rules.{rules}
use native.Mathlib.Omega.{arith}
use Rattle.laws.proofs.Fill.{fill_start, fill_more, fill_done}
use Rattle.texts.proofs.TextLaws.{from_is}
use Rattle.texts.proofs.fill_froms.Goals as goal

pub loop-i-init : goal.loop-i-init
loop-i-init c = (omega arith, fill_start _ _ _)

pub loop-i-preserved : goal.loop-i-preserved
loop-i-preserved c =
    let word : (to_z w64 (of_z w64 c.txp_at-row.result.from) ≡ c.txp_at-row.result.from) = let f : SFits w64 c.txp_at-row.result.from = search rules in
    to_z-of_z f in
    (omega arith, fill_more _ _ c.loop-i.invariant.1 c.loop-i-test.true (word ∙ from_is _ c.txp_at-row.ensures.value))

pub returns : goal.returns
returns c = fill_done _ _ c.loop-i.invariant.1 (omega arith)
