-- By what the scale says of the value.
use mathlib.Core.Path.{◌≡◌, ap, sym, ◌∙◌}
use lib.IntN.{ℤ}
use Rattle.std.specs.Prelude.{Result}
use mir.Facts.{to_z-of_z}
use mir.Val.{SFits, to_z, of_z}
use mir.Syntax.{w64}
use borrow.Author.Rules.{rules}
use Rattle.outcomes.specs.Refusals.{said, refused_by}
use Rattle.curve_values.specs.Scale.{on_scale, scale_in}
use Rattle.outcomes.specs.declared.Refusal.{Refusal}
use Rattle.severity.specs.Checks.{severity_in}
use Rattle.occurrences.proofs.PassLaws.{after_number, after_refused}
use Rattle.occurrences.proofs.check_value.Goals as goal

pub returns-in-Ok : goal.returns-in-Ok
unfolding said
returns-in-Ok c =
    let said-is : (v : Result ℤ Refusal) → c.value_on.result ≡ v → (on_scale (scale_in c.args.scale c.args.xs.now c.args.ys.now) c.args.raw ≡ said v) = λ _ e. sym (c.value_on.ensures ∙ ap (on_scale _) (to_z-of_z c.ranges.raw)) ∙ ap said e in
    let word : to_z w64 (of_z w64 c.in-Ok.v) ≡ c.in-Ok.v = let f : SFits w64 c.in-Ok.v = search rules in
    to_z-of_z f in
    after_number _ _ _ (said-is _ c.in-Ok.is) (c.severity_in.ensures ∙ ap (severity_in _) word) c.after_reading.ensures

pub returns-in-Err : goal.returns-in-Err
unfolding said refused_by
returns-in-Err c =
    let said-is : (v : Result ℤ Refusal) → c.value_on.result ≡ v → (on_scale (scale_in c.args.scale c.args.xs.now c.args.ys.now) c.args.raw ≡ said v) = λ _ e. sym (c.value_on.ensures ∙ ap (on_scale _) (to_z-of_z c.ranges.raw)) ∙ ap said e in
    after_refused _ _ _ (said-is _ c.in-Err.is) c.number_of.ensures c.after_refusal.ensures
