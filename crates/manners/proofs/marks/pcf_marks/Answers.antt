-- The marks together.
use Prim.Native.Nat.{◌≤◌}
use native.Mathlib.Omega.{arith}
use Rattle.verdicts.specs.Facts.{pcf_facts}
use Rattle.manners.specs.Manners.{weight, marks_of}
use Rattle.manners.proofs.MarkLaws.{mark_most}
use Rattle.manners.proofs.marks.pcf_marks.Goals as goal

pub overflow_add-result : goal.overflow_add-result
overflow_add-result c =
    let small : (c.mark-locatable.result ≤ 2) × (c.mark-whole.result ≤ 4) × (c.mark-numeric.result ≤ 8) = (
      mark_most c.is_locatable.result 2 c.mark-locatable.ensures,
      mark_most c.is_whole.result 4 c.mark-whole.ensures,
      mark_most c.is_numeric.result 8 c.mark-numeric.ensures,
    ) in
    record { fits = omega (arith, small) }

pub overflow_add-result-2 : goal.overflow_add-result-2
overflow_add-result-2 c =
    let small : (c.mark-locatable.result ≤ 2) × (c.mark-whole.result ≤ 4) × (c.mark-numeric.result ≤ 8) = (
      mark_most c.is_locatable.result 2 c.mark-locatable.ensures,
      mark_most c.is_whole.result 4 c.mark-whole.ensures,
      mark_most c.is_numeric.result 8 c.mark-numeric.ensures,
    ) in
    record { fits = omega (arith, small) }

pub overflow_add-result-3 : goal.overflow_add-result-3
overflow_add-result-3 c =
    let small : (c.mark-locatable.result ≤ 2) × (c.mark-whole.result ≤ 4) × (c.mark-numeric.result ≤ 8) = (
      mark_most c.is_locatable.result 2 c.mark-locatable.ensures,
      mark_most c.is_whole.result 4 c.mark-whole.ensures,
      mark_most c.is_numeric.result 8 c.mark-numeric.ensures,
    ) in
    record { fits = omega (arith, small) }

pub returns : goal.returns
unfolding marks_of weight pcf_facts
returns c = rw (
  c.mark-locatable.ensures,
  c.mark-whole.ensures,
  c.mark-numeric.ensures,
  c.is_locatable.ensures,
  c.is_whole.ensures,
  c.is_numeric.ensures,
)
    (omega arith)
