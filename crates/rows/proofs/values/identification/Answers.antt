-- By the sign of the offset, which passed its word unchanged.
use mathlib.Core.Path.{◌≡◌, ap, ◌∙◌}
use lib.IntN.{ℤ, nat_abs}
use mir.Syntax.{w64}
use mir.Val.{to_z, of_z}
use Rattle.laws.proofs.Words.{through_word}
use Rattle.rows.specs.declared.records.IdentificationField.TheVariants.{At}
use Rattle.rows.proofs.ValueLaws.{field_unused, field_used, offset_fits}
use Rattle.rows.proofs.values.identification.Goals as goal

pub returns-then-offset-lt0 : goal.returns-then-offset-lt0
returns-then-offset-lt0 c =
    let word : to_z w64 (of_z w64 c.args.offset) ≡ c.args.offset = through_word _ c.ranges.offset.sfits in
    field_unused _ _ (rw word at c.if-offset-lt0.true)

pub overflow_cast-byte : goal.overflow_cast-byte
overflow_cast-byte c =
    let word : to_z w64 (of_z w64 c.args.offset) ≡ c.args.offset = through_word _ c.ranges.offset.sfits in
    rw word (offset_fits c.args.offset c.ranges.offset.sfits (rw word at c.if-offset-lt0.false))

pub returns : goal.returns
returns c =
    let word : to_z w64 (of_z w64 c.args.offset) ≡ c.args.offset = through_word _ c.ranges.offset.sfits in
    ap (λ (z : ℤ). At (record { 0 = nat_abs z }) c.args.width) word ∙ field_used c.args.offset c.args.width (rw word at c.if-offset-lt0.false)
