-- 30 before 31.
use Rattle.outcomes.specs.Refusals.{said, refused_by, refusal_number, refusal_place}
use Rattle.occurrences.specs.Pass.{ended}
use Rattle.occurrences.proofs.end_pass.Goals as goal

pub returns-then-pass : goal.returns-then-pass
unfolding ended said refused_by refusal_number refusal_place
returns-then-pass c = rw c.if-pass.true

pub returns-then-pass-2 : goal.returns-then-pass-2
unfolding ended said refused_by refusal_number refusal_place
returns-then-pass-2 c = rw (c.if-pass.false, c.if-pass-2.true)

pub returns : goal.returns
unfolding ended said
returns c = rw (c.if-pass.false, c.if-pass-2.false)
