-- By the limits, and then by the place of the parameter.
use mathlib.Core.Path.{◌≡◌, sym, ◌∙◌}
use mathlib.Core.List.{map}
use mathlib.Core.Option.{some}
use Prim.Native.Nat.{◌-◌}
use Rattle.outcomes.specs.Refusals.{refused_by, refusal_number, refusal_place}
use Rattle.verdicts.specs.Key.{limits}
use Rattle.database.specs.Arrays.{database, row_at, answers}
use Rattle.database.proofs.FindLaws.{holder_none, holder_some}
use Rattle.parameters.proofs.LocatedLaws.{at_found, at_missing}
use Rattle.accepting.proofs.TimeLaws.{answers_as}
use Rattle.stepping.proofs.AnswerLaws.{no_limits_lem, no_place, with_place}
use Rattle.stepping.proofs.step.step_of.Goals as goal

pub returns-then-place-eq0 : goal.returns-then-place-eq0
unfolding refused_by refusal_number refusal_place
returns-then-place-eq0 c = answers_as c.refuse.ensures (no_limits_lem _ _ _ _ _ _ (holder_none _ _ _ _ _ _ c.limits_key.ensures.0 c.limits_key.ensures.1 _ c.holder_of-place.ensures.0 c.if-place-eq0.true))

pub returns-in_default : goal.returns-in_default
unfolding refused_by refusal_number refusal_place
returns-in_default c =
    let found-limits : ((answers (database (map (λ x. x.now) c.args.tables) c.args.words.now c.args.links.now c.args.columns.now)).holder (limits c.args.name) ≡ some (row_at (map (λ x. x.now) c.args.tables) c.args.columns.now (c.holder_of-place.result - 1))) = holder_some _ _ _ _ _ _ c.limits_key.ensures.0 c.limits_key.ensures.1 _ c.holder_of-place.ensures.0 c.if-place-eq0.false in
    answers_as c.refuse-in_default.ensures
    (no_place _ _ _ _ _ _ found-limits (sym (at_missing _ _ _ c.in_default.is) ∙ c.locate.ensures _))

pub returns : goal.returns
returns c =
    let found-limits : ((answers (database (map (λ x. x.now) c.args.tables) c.args.words.now c.args.links.now c.args.columns.now)).holder (limits c.args.name) ≡ some (row_at (map (λ x. x.now) c.args.tables) c.args.columns.now (c.holder_of-place.result - 1))) = holder_some _ _ _ _ _ _ c.limits_key.ensures.0 c.limits_key.ensures.1 _ c.holder_of-place.ensures.0 c.if-place-eq0.false in
    answers_as c.step_at.ensures
    (with_place _ _ _ _ _ _ found-limits c.ocf_at.ensures
    (sym (at_found _ _ _ c.in-Some.is) ∙ c.locate.ensures _))
