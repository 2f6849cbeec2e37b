use mathlib.Core.Path.{◌≡◌, ap, ◌∙◌}
use native.Mathlib.Omega.{arith}
use mir.Syntax.{w64}
use mir.Val.{to_z, of_z}
use Rattle.laws.proofs.Words.{through_word, kept}
use Rattle.severity.specs.Checks.{severity_in}
use Rattle.severity.proofs.SeverityInLaws.{from_start, end_soft, end_within, hard_found, soft_found, other_found, within_found}
use Rattle.severity.proofs.severity_in.Goals.{then-is_violated+else-level-eq2+then-level-eq1, then-is_violated+else-level-eq2+else-level-eq1, else-is_violated}
use Rattle.severity.proofs.severity_in.Goals as goal

pub loop-i-init : goal.loop-i-init
loop-i-init c = (omega arith, from_start _ _ _ _)

pub returns-then-level-eq2 : goal.returns-then-level-eq2
returns-then-level-eq2 c =
    let value-word : to_z w64 (of_z w64 c.args.value) ≡ c.args.value = through_word c.args.value c.ranges.value.sfits in
    hard_found _ _ _ _ _ _ c.loop-i.invariant.1 c.loop-i-test.true (kept c.limit_at.type_inv c.limit_at.ensures)
    (kept c.limit_at-in-loop-i.type_inv c.limit_at-in-loop-i.ensures) c.is_violated.ensures
    c.if-is_violated.true c.if-level-eq2.true
    ∙ ap (severity_in _) value-word

pub loop-i-preserved : goal.loop-i-preserved
loop-i-preserved c = let low = kept c.limit_at.type_inv c.limit_at.ensures in
    let high = kept c.limit_at-in-loop-i.type_inv c.limit_at-in-loop-i.ensures in (
      omega arith,
      elim c.if-is_violated.branch [
        | then-is_violated+else-level-eq2+then-level-eq1 w ↦ rw w.soft-is (soft_found _ _ _ _ _ _ c.loop-i.invariant.1 c.loop-i-test.true low high c.is_violated.ensures w.if-is_violated.true w.if-level-eq2.false w.if-level-eq1.true)
        | then-is_violated+else-level-eq2+else-level-eq1 w ↦ rw w.soft-is (other_found _ _ _ _ _ _ c.loop-i.invariant.1 c.loop-i-test.true low high c.is_violated.ensures w.if-is_violated.true w.if-level-eq2.false w.if-level-eq1.false)
        | else-is_violated w ↦ rw w.soft-is (within_found _ _ _ _ _ _ c.loop-i.invariant.1 c.loop-i-test.true low high c.is_violated.ensures w.if-is_violated.false)
      ],
    )

pub returns-then-soft : goal.returns-then-soft
returns-then-soft c =
    let value-word : to_z w64 (of_z w64 c.args.value) ≡ c.args.value = through_word c.args.value c.ranges.value.sfits in
    end_soft _ _ _ _ _ _ c.loop-i.invariant.1 c.loop-i-test.false c.if-soft.true ∙ ap (severity_in _) value-word

pub returns-else-soft : goal.returns-else-soft
returns-else-soft c =
    let value-word : to_z w64 (of_z w64 c.args.value) ≡ c.args.value = through_word c.args.value c.ranges.value.sfits in
    end_within _ _ _ _ _ _ c.loop-i.invariant.1 c.loop-i-test.false c.if-soft.false ∙ ap (severity_in _) value-word
