-- The rows of the group, listed, and the checks of these rows.
use mathlib.Core.Path.{◌∙◌}
use mathlib.Core.List.{map}
use native.Mathlib.Omega.{arith}
use Rattle.verdicts.specs.Key.{limits}
use Rattle.database.proofs.GatherLaws.{Listed, listed, listed_room, listed_part}
use Rattle.applying.specs.Checks.{applying}
use Rattle.checking.proofs.CheckLaws.{listed_checks}
use Rattle.checking.proofs.checks.gather_checks.Goals as goal

pub slice_bounds-places-end : goal.slice_bounds-places-end
slice_bounds-places-end c =
    let rows-listed : (Listed (map (λ x. x.now) c.args.tables) c.args.words.now c.args.links.now c.args.columns.now (limits c.args.subject.name) c.list_members-members.new.places c.list_members-members.result) = listed _ _ _ _ _ c.limits_key.ensures (c.list_members-members.ensures.value, (c.list_members-members.ensures.places_after, c.list_members-members.ensures.upper_bound)) in
    listed_room rows-listed

pub slice_bounds-fill_checks-end : goal.slice_bounds-fill_checks-end
slice_bounds-fill_checks-end c =
    let rows-listed : (Listed (map (λ x. x.now) c.args.tables) c.args.words.now c.args.links.now c.args.columns.now (limits c.args.subject.name) c.list_members-members.new.places c.list_members-members.result) = listed _ _ _ _ _ c.limits_key.ensures (c.list_members-members.ensures.value, (c.list_members-members.ensures.places_after, c.list_members-members.ensures.upper_bound)) in
    listed_part rows-listed

pub fill_checks-requires : goal.fill_checks-requires
fill_checks-requires c =
    let rows-listed : (Listed (map (λ x. x.now) c.args.tables) c.args.words.now c.args.links.now c.args.columns.now (limits c.args.subject.name) c.list_members-members.new.places c.list_members-members.result) = listed _ _ _ _ _ c.limits_key.ensures (c.list_members-members.ensures.value, (c.list_members-members.ensures.places_after, c.list_members-members.ensures.upper_bound)) in
    let l = rows-listed in
    (omega (arith, listed_part l, l.few), c.requires)

pub returns : goal.returns
unfolding applying
returns c =
    let rows-listed : (Listed (map (λ x. x.now) c.args.tables) c.args.words.now c.args.links.now c.args.columns.now (limits c.args.subject.name) c.list_members-members.new.places c.list_members-members.result) = listed _ _ _ _ _ c.limits_key.ensures (c.list_members-members.ensures.value, (c.list_members-members.ensures.places_after, c.list_members-members.ensures.upper_bound)) in
    let l = rows-listed in record { levels_after = c.fill_checks.ensures.levels_after ∙ listed_checks _ l; upper_bound = c.fill_checks.ensures.upper_bound }
