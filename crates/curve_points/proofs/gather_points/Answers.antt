-- The rows of the group, listed and read.
use mathlib.Core.List.{map}
use native.Mathlib.Omega.{arith}
use Rattle.verdicts.specs.Key.{curve}
use Rattle.curve_points.specs.Curves.{xvals_of, yvals_of}
use Rattle.database.proofs.GatherLaws.{Listed, listed, listed_room, listed_part, listed_count, filled}
use Rattle.curve_points.proofs.CurveLaws.{points_are}
use Rattle.curve_points.proofs.gather_points.Goals as goal

pub slice_bounds-places-end : goal.slice_bounds-places-end
slice_bounds-places-end c =
    let points : (Listed (map (λ x. x.now) c.args.tables) c.args.words.now c.args.links.now c.args.columns.now (curve c.args.name) c.list_members-count.new.places c.list_members-count.result) = listed _ _ _ _ _ c.curve_key.ensures (c.list_members-count.ensures.value, (c.list_members-count.ensures.places_after, c.list_members-count.ensures.upper_bound)) in
    listed_room points

pub slice_bounds-fill_points-end : goal.slice_bounds-fill_points-end
slice_bounds-fill_points-end c =
    let points : (Listed (map (λ x. x.now) c.args.tables) c.args.words.now c.args.links.now c.args.columns.now (curve c.args.name) c.list_members-count.new.places c.list_members-count.result) = listed _ _ _ _ _ c.curve_key.ensures (c.list_members-count.ensures.value, (c.list_members-count.ensures.places_after, c.list_members-count.ensures.upper_bound)) in
    listed_part points

pub fill_points-requires : goal.fill_points-requires
fill_points-requires c =
    let points : (Listed (map (λ x. x.now) c.args.tables) c.args.words.now c.args.links.now c.args.columns.now (curve c.args.name) c.list_members-count.new.places c.list_members-count.result) = listed _ _ _ _ _ c.curve_key.ensures (c.list_members-count.ensures.value, (c.list_members-count.ensures.places_after, c.list_members-count.ensures.upper_bound)) in
    let l = points in omega (arith, listed_part l, l.few)

pub returns : goal.returns
returns c =
    let points : (Listed (map (λ x. x.now) c.args.tables) c.args.words.now c.args.links.now c.args.columns.now (curve c.args.name) c.list_members-count.new.places c.list_members-count.result) = listed _ _ _ _ _ c.curve_key.ensures (c.list_members-count.ensures.value, (c.list_members-count.ensures.places_after, c.list_members-count.ensures.upper_bound)) in
    let l = points in record { value = points_are _ _ c.curve_ends-ends.ensures (listed_count l); xs_after = filled l xvals_of _ c.fill_points.ensures.xs_after; ys_after = filled l yvals_of _ c.fill_points.ensures.ys_after }
