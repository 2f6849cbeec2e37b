-- The text of the greatest FROM not above the raw value.
use mathlib.Core.Path.{◌≡◌, ap, ap₂, sym, ◌∙◌}
use mathlib.Core.List.{map}
use Prim.Native.Nat.{◌≤◌, ◌<◌}
use native.Mathlib.Omega.{arith}
use lib.IntN.{pos}
use lib.ListN.{length, replicate, length-replicate}
use lib.Seq.{length-sets}
use mir.Facts.{to_z-of_z}
use Rattle.verdicts.specs.Key.{texts}
use Rattle.calibration.specs.Nearest.{not_above}
use Rattle.outcomes.specs.Refusals.{refusal_number, refusal_place, refused_by}
use Rattle.database.specs.Arrays.{database, answers}
use Rattle.texts.specs.Texts.{from_of, said_text}
use Rattle.database.proofs.GatherLaws.{Listed, listed, listed_room, listed_part, part_long, member_at, filled_front}
use Rattle.texts.proofs.TextLaws.{text_none, text_some, found_below}
use Rattle.texts.proofs.text_value.Goals as goal

pub slice_bounds-places-end : goal.slice_bounds-places-end
slice_bounds-places-end c =
    let ranges : (Listed (map (λ x. x.now) c.args.tables) c.args.words.now c.args.links.now c.args.columns.now (texts c.args.name) c.list_members-count.new.places c.list_members-count.result) = listed _ _ _ _ _ c.texts_key.ensures (c.list_members-count.ensures.value, (c.list_members-count.ensures.places_after, c.list_members-count.ensures.upper_bound)) in
    listed_room ranges

pub slice_bounds-fill_froms-end : goal.slice_bounds-fill_froms-end
slice_bounds-fill_froms-end c =
    let ranges : (Listed (map (λ x. x.now) c.args.tables) c.args.words.now c.args.links.now c.args.columns.now (texts c.args.name) c.list_members-count.new.places c.list_members-count.result) = listed _ _ _ _ _ c.texts_key.ensures (c.list_members-count.ensures.value, (c.list_members-count.ensures.places_after, c.list_members-count.ensures.upper_bound)) in
    listed_part ranges

pub fill_froms-requires : goal.fill_froms-requires
fill_froms-requires c =
    let ranges : (Listed (map (λ x. x.now) c.args.tables) c.args.words.now c.args.links.now c.args.columns.now (texts c.args.name) c.list_members-count.new.places c.list_members-count.result) = listed _ _ _ _ _ c.texts_key.ensures (c.list_members-count.ensures.value, (c.list_members-count.ensures.places_after, c.list_members-count.ensures.upper_bound)) in
    let l = ranges in omega (arith, listed_part l, l.few)

pub slice_bounds-froms-end : goal.slice_bounds-froms-end
slice_bounds-froms-end c =
    let ranges : (Listed (map (λ x. x.now) c.args.tables) c.args.words.now c.args.links.now c.args.columns.now (texts c.args.name) c.list_members-count.new.places c.list_members-count.result) = listed _ _ _ _ _ c.texts_key.ensures (c.list_members-count.ensures.value, (c.list_members-count.ensures.places_after, c.list_members-count.ensures.upper_bound)) in
    let room : c.list_members-count.result ≤ length c.fill_froms.new.froms = let l = ranges in
    let long : length c.fill_froms.new.froms ≡ 1024 = ap length c.fill_froms.ensures ∙ simp (length-sets, length-replicate) in
    omega (arith, l.few, long) in
    room

pub slice_bounds-not_above-end : goal.slice_bounds-not_above-end
slice_bounds-not_above-end c =
    let ranges : (Listed (map (λ x. x.now) c.args.tables) c.args.words.now c.args.links.now c.args.columns.now (texts c.args.name) c.list_members-count.new.places c.list_members-count.result) = listed _ _ _ _ _ c.texts_key.ensures (c.list_members-count.ensures.value, (c.list_members-count.ensures.places_after, c.list_members-count.ensures.upper_bound)) in
    let room : c.list_members-count.result ≤ length c.fill_froms.new.froms = let l = ranges in
    let long : length c.fill_froms.new.froms ≡ 1024 = ap length c.fill_froms.ensures ∙ simp (length-sets, length-replicate) in
    omega (arith, l.few, long) in
    part_long _ _ room

pub offset_bounds-places-i : goal.offset_bounds-places-i
offset_bounds-places-i c =
    let ranges : (Listed (map (λ x. x.now) c.args.tables) c.args.words.now c.args.links.now c.args.columns.now (texts c.args.name) c.list_members-count.new.places c.list_members-count.result) = listed _ _ _ _ _ c.texts_key.ensures (c.list_members-count.ensures.value, (c.list_members-count.ensures.places_after, c.list_members-count.ensures.upper_bound)) in
    let room : c.list_members-count.result ≤ length c.fill_froms.new.froms = let l = ranges in
    let long : length c.fill_froms.new.froms ≡ 1024 = ap length c.fill_froms.ensures ∙ simp (length-sets, length-replicate) in
    omega (arith, l.few, long) in
    let place : c.in-Some.i < c.list_members-count.result = found_below _ _ _ room (sym c.not_above.ensures ∙ c.in-Some.is) in
    let l = ranges in omega (arith, place, l.few)

pub bounds-places-i : goal.bounds-places-i
bounds-places-i c =
    let ranges : (Listed (map (λ x. x.now) c.args.tables) c.args.words.now c.args.links.now c.args.columns.now (texts c.args.name) c.list_members-count.new.places c.list_members-count.result) = listed _ _ _ _ _ c.texts_key.ensures (c.list_members-count.ensures.value, (c.list_members-count.ensures.places_after, c.list_members-count.ensures.upper_bound)) in
    let room : c.list_members-count.result ≤ length c.fill_froms.new.froms = let l = ranges in
    let long : length c.fill_froms.new.froms ≡ 1024 = ap length c.fill_froms.ensures ∙ simp (length-sets, length-replicate) in
    omega (arith, l.few, long) in
    let place : c.in-Some.i < c.list_members-count.result = found_below _ _ _ room (sym c.not_above.ensures ∙ c.in-Some.is) in
    let l = ranges in omega (arith, place, l.few)

pub returns-in-Some : goal.returns-in-Some
returns-in-Some c =
    let ranges : (Listed (map (λ x. x.now) c.args.tables) c.args.words.now c.args.links.now c.args.columns.now (texts c.args.name) c.list_members-count.new.places c.list_members-count.result) = listed _ _ _ _ _ c.texts_key.ensures (c.list_members-count.ensures.value, (c.list_members-count.ensures.places_after, c.list_members-count.ensures.upper_bound)) in
    let found : (let d = database (map (λ x. x.now) c.args.tables) c.args.words.now c.args.links.now c.args.columns.now in not_above (map from_of ((answers d).members (texts c.args.name))) c.args.raw ≡ c.not_above.result) = let front = filled_front ranges from_of (replicate 1024 (pos 0)) c.fill_froms.ensures (omega (arith, length-replicate 1024 (pos 0))) in
    sym (c.not_above.ensures ∙ ap₂ not_above front (to_z-of_z c.ranges.raw)) in
    let room : c.list_members-count.result ≤ length c.fill_froms.new.froms = let l = ranges in
    let long : length c.fill_froms.new.froms ≡ 1024 = ap length c.fill_froms.ensures ∙ simp (length-sets, length-replicate) in
    omega (arith, l.few, long) in
    let place : c.in-Some.i < c.list_members-count.result = found_below _ _ _ room (sym c.not_above.ensures ∙ c.in-Some.is) in
    c.text_of.ensures ∙ text_some _ _ _ (found ∙ c.in-Some.is) (member_at ranges _ place) (to_z-of_z c.ranges.raw)

pub returns-in-None : goal.returns-in-None
unfolding said_text refused_by refusal_number refusal_place
returns-in-None c =
    let ranges : (Listed (map (λ x. x.now) c.args.tables) c.args.words.now c.args.links.now c.args.columns.now (texts c.args.name) c.list_members-count.new.places c.list_members-count.result) = listed _ _ _ _ _ c.texts_key.ensures (c.list_members-count.ensures.value, (c.list_members-count.ensures.places_after, c.list_members-count.ensures.upper_bound)) in
    let found : (let d = database (map (λ x. x.now) c.args.tables) c.args.words.now c.args.links.now c.args.columns.now in not_above (map from_of ((answers d).members (texts c.args.name))) c.args.raw ≡ c.not_above.result) = let front = filled_front ranges from_of (replicate 1024 (pos 0)) c.fill_froms.ensures (omega (arith, length-replicate 1024 (pos 0))) in
    sym (c.not_above.ensures ∙ ap₂ not_above front (to_z-of_z c.ranges.raw)) in
    text_none _ _ _ (found ∙ c.in-None.is)
