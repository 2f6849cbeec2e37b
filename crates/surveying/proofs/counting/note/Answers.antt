-- Case by case.
use Rattle.std.proofs.Common.{ℕ, ap, ap₂}
use Rattle.surveying.specs.Surveys.{tallied, noted}
use Rattle.surveying.proofs.counting.note.Goals as goal

pub returns-in-Some : goal.returns-in-Some
unfolding noted
returns-in-Some c = rw c.in-Some.is
    (ap₂ (λ (n w : ℕ). tallied n c.args.tally.refused w) c.wrapping_add_usize.ensures.value c.wrapping_add_u64.ensures.value)

pub returns-in-None : goal.returns-in-None
unfolding noted
returns-in-None c = rw c.in-None.is (ap (λ (n : ℕ). tallied c.args.tally.answered n c.args.tally.weight) c.wrapping_add_usize-in-None.ensures.value)
