use mathlib.Core.Path.{◌≡◌, refl, ap, ◌∙◌}
use mathlib.Core.List.{List}
use Prim.Native.Nat.{ℕ}
use native.Mathlib.Omega.{arith}
use native.Mathlib.Numerals.{add-one}
use Rattle.areas.specs.Memory.{cleared, first_cleared, all_cleared, area_count}
use Rattle.areas.proofs.clear_all.Goals as goal

pub loop-t-init : goal.loop-t-init
unfolding first_cleared
loop-t-init c = (omega arith, refl, refl)

pub loop-t-preserved : goal.loop-t-preserved
unfolding first_cleared
loop-t-preserved c = (omega arith, c.clear.auto.ends ∙ c.loop-t.invariant.1, c.clear.ensures ∙ rw add-one (ap (λ (e : List ℕ). cleared e c.loop-t.t) c.loop-t.invariant.2))

pub returns : goal.returns
unfolding all_cleared
returns c = let e : c.loop-t.t ≡ area_count = omega arith in
    c.loop-t.invariant.2 ∙ rw e
