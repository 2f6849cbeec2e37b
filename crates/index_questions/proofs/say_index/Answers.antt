-- The template as far as there are rows, and the rows.
use native.Mathlib.Nat.{sub-zero}
use Rattle.laws.specs.Values.{tabulate}
use Rattle.index_questions.specs.IndexReplies.{index_answer}
use Rattle.index_questions.proofs.say_index.Goals as goal

pub returns : goal.returns
unfolding index_answer tabulate
returns c = simp (
  c.says.ensures,
  c.part.ensures,
  c.told_of-told.ensures.0,
  sub-zero,
  c.half_at-6.ensures,
  c.half_at-5.ensures,
  c.half_at-4.ensures,
  c.half_at-3.ensures,
  c.half_at-2.ensures,
  c.half_at.ensures,
)
