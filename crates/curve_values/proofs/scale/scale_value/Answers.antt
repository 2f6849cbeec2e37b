-- On the scale that was gathered.
use mathlib.Core.Path.{◌≡◌, ap, ap₂, sym, ◌∙◌}
use mathlib.Core.List.{map}
use native.Mathlib.Omega.{arith}
use lib.IntN.{pos}
use lib.ListN.{length, replicate, length-replicate}
use lib.Seq.{length-sets}
use mir.Facts.{to_z-of_z}
use Rattle.verdicts.specs.Key.{curve}
use Rattle.database.specs.Arrays.{database, answers}
use Rattle.curve_values.specs.Scale.{scale_of, on_scale, scale_in}
use Rattle.database.proofs.GatherLaws.{members_few}
use Rattle.curve_values.proofs.ScaleLaws.{gathered_scale}
use Rattle.curve_values.proofs.scale.scale_value.Goals as goal

pub slice_bounds-value_on-end : goal.slice_bounds-value_on-end
slice_bounds-value_on-end c = sym (ap length c.gather_scale-scale.ensures.xs_after ∙ simp (length-sets, length-replicate))

pub slice_bounds-value_on-end-2 : goal.slice_bounds-value_on-end-2
slice_bounds-value_on-end-2 c = sym (ap length c.gather_scale-scale.ensures.ys_after ∙ simp (length-sets, length-replicate))

pub returns : goal.returns
returns c =
    let gathered : (scale_in c.gather_scale-scale.result c.gather_scale-scale.new.xs c.gather_scale-scale.new.ys ≡ scale_of (answers (database (map (λ x. x.now) c.args.tables) c.args.words.now c.args.links.now c.args.columns.now)) c.args.curtx) = let few = members_few (map (λ x. x.now) c.args.tables) c.args.words.now c.args.links.now c.args.columns.now (curve c.args.curtx.name) in
    let zeros = length-replicate 1024 (pos 0) in
    rw (c.gather_scale-scale.ensures.value, c.gather_scale-scale.ensures.xs_after, c.gather_scale-scale.ensures.ys_after) (gathered_scale _ _ (replicate 1024 (pos 0)) (replicate 1024 (pos 0)) (omega (arith, few, zeros)) (omega (arith, few, zeros))) in
    c.value_on.ensures ∙ ap₂ on_scale gathered (to_z-of_z c.ranges.raw)
