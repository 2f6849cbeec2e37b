-- By the sign of the number, which passed its word unchanged.
use mathlib.Core.Path.{◌≡◌, sym, ◌∙◌}
use mir.Syntax.{w64}
use mir.Val.{to_z, of_z}
use Rattle.laws.proofs.Words.{through_word}
use Rattle.offered.proofs.OfferedLaws.{within_negative, within_natural}
use Rattle.offered.proofs.is_within.Goals as goal

pub returns-then-less : goal.returns-then-less
returns-then-less c =
    let word : to_z w64 (of_z w64 c.args.n) ≡ c.args.n = through_word _ c.ranges.n.sfits in
    within_negative _ _ (sym (rw word at c.less.ensures) ∙ c.if-less.true)

pub returns : goal.returns
returns c =
    let word : to_z w64 (of_z w64 c.args.n) ≡ c.args.n = through_word _ c.ranges.n.sfits in
    rw (c.size.ensures, word) (within_natural _ _ (sym (rw word at c.less.ensures) ∙ c.if-less.false))
