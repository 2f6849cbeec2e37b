use mathlib.Core.Path.{sym, ◌∙◌}
use native.Mathlib.Omega.{arith}
use Rattle.symbols.proofs.FollowLaws.{start, none, here, on, spent}
use Rattle.symbols.proofs.follow.Goals as goal

pub loop-steps-init : goal.loop-steps-init
loop-steps-init c = start _ _ _ _ c.bucket-place.ensures

pub returns-then-at-eq0 : goal.returns-then-at-eq0
returns-then-at-eq0 c = record {
  is = none _ _ _ _ _ _ _ c.loop-steps.invariant c.loop-steps-test.true _ (c.wide-at.ensures.0 ∙ c.half_at.ensures)
      c.if-at-eq0.true;
  small = omega arith;
}

pub overflow_sub-at : goal.overflow_sub-at
overflow_sub-at c = omega (arith, c.if-at-eq0.false)

pub symbol_at-requires : goal.symbol_at-requires
symbol_at-requires c = omega (arith, c.wide-at.ensures.1)

pub returns-then-same : goal.returns-then-same
returns-then-same c = record {
  is = here _ _ _ _ _ _ _ c.loop-steps.invariant c.loop-steps-test.true _ (c.wide-at.ensures.0 ∙ c.half_at.ensures) c.if-at-eq0.false _
      c.symbol_at.ensures (sym c.same.ensures ∙ c.if-same.true);
  small = c.wide-at.ensures.1;
}

pub overflow_sub-at-in-loop-steps : goal.overflow_sub-at-in-loop-steps
overflow_sub-at-in-loop-steps c = omega (arith, c.if-at-eq0.false)

pub link_from-place-requires : goal.link_from-place-requires
link_from-place-requires c = omega (arith, c.wide-at.ensures.1)

pub loop-steps-preserved : goal.loop-steps-preserved
loop-steps-preserved c = on _ _ _ _ _ _ _ c.loop-steps.invariant c.loop-steps-test.true _ (c.wide-at.ensures.0 ∙ c.half_at.ensures) c.if-at-eq0.false _
    c.symbol_at.ensures (sym c.same.ensures ∙ c.if-same.false) _ c.link_from-place.ensures _ c.turned-trail.ensures

pub returns : goal.returns
returns c = record { is = spent _ _ _ _ _ _ _ c.loop-steps.invariant (omega arith); small = omega arith }
