use mathlib.Core.Path.{ap}
use native.Mathlib.Omega.{arith}
use Rattle.symbols.proofs.AnswerLaws.{found_some, found_none}
use Rattle.symbols.proofs.find.Goals as goal

pub returns-then-trace-eq0 : goal.returns-then-trace-eq0
returns-then-trace-eq0 c = found_none _ _ _ _ (ap (λ x. x.at) c.follow-trace.ensures.is) c.if-trace-eq0.true

pub overflow_sub-result : goal.overflow_sub-result
overflow_sub-result c = omega (arith, c.if-trace-eq0.false)

pub overflow_cast-result : goal.overflow_cast-result
overflow_cast-result c = omega (arith, c.follow-trace.ensures.small)

pub returns : goal.returns
returns c = found_some _ _ _ _ (ap (λ x. x.at) c.follow-trace.ensures.is) (omega (arith, c.if-trace-eq0.false))
