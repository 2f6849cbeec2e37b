-- `limits::checks::is_violated` meets its contract: below LVALU, and above HVALU.
use mathlib.Core.Path.{◌≡◌, sym, ap₂, ◌∙◌}
use lib.Signed.{lt_z}
use mir.Facts.{to_z-of_z}
use mir.Syntax.{w64}
use mir.Val.{to_z, of_z}
use Rattle.severity.proofs.CheckLaws.{violated_below, violated_above}
use Rattle.severity.proofs.is_violated.Goals as goal

pub returns-then-value-lvalu : goal.returns-then-value-lvalu
returns-then-value-lvalu c =
    let low_word : to_z w64 (of_z w64 c.args.lvalu) ≡ c.args.lvalu = to_z-of_z c.ranges.lvalu in
    let value-word : to_z w64 (of_z w64 c.args.value) ≡ c.args.value = to_z-of_z c.ranges.value in
    violated_below c.args.lvalu c.args.hvalu c.args.value (sym (ap₂ lt_z value-word low_word) ∙ c.if-value-lvalu.true)

pub returns : goal.returns
returns c =
    let low_word : to_z w64 (of_z w64 c.args.lvalu) ≡ c.args.lvalu = to_z-of_z c.ranges.lvalu in
    let high_word : to_z w64 (of_z w64 c.args.hvalu) ≡ c.args.hvalu = to_z-of_z c.ranges.hvalu in
    let value-word : to_z w64 (of_z w64 c.args.value) ≡ c.args.value = to_z-of_z c.ranges.value in
    violated_above c.args.lvalu c.args.hvalu c.args.value _ (sym (ap₂ lt_z value-word low_word) ∙ c.if-value-lvalu.false)
    (ap₂ lt_z high_word value-word)
