use mathlib.Core.Path.{refl, ap, sym, ◌∙◌}
use Rattle.pointing.specs.Pointing.{first_of}
use Rattle.pointing.proofs.StepLaws.{search_here, search_more, search_end}
use Rattle.pointing.proofs.next_cause.Goals as goal

pub loop-j-init : goal.loop-j-init
loop-j-init c = refl

pub returns-then-points_to : goal.returns-then-points_to
returns-then-points_to c = search_here _ _ _ c.loop-j-test.true (sym c.points_to.ensures ∙ c.if-points_to.true) ∙ ap first_of
    c.loop-j.invariant

pub loop-j-preserved : goal.loop-j-preserved
loop-j-preserved c = sym (search_more _ _ _ c.loop-j-test.true (sym c.points_to.ensures ∙ c.if-points_to.false)) ∙ c.loop-j.invariant

pub returns : goal.returns
returns c = search_end _ _ _ c.loop-j-test.false ∙ ap first_of c.loop-j.invariant
