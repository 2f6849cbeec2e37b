use mathlib.Core.Path.{◌≡◌, ap, sym, ◌∙◌}
use mathlib.Core.Bool.{true}
use native.Mathlib.Omega.{arith}
use Rattle.symbols.specs.Arrays.{has_space}
use Rattle.symbols.proofs.AnswerLaws.{Room, room_tells, intern_some, intern_full, intern_new}
use Rattle.symbols.proofs.intern.Goals as goal

pub overflow_sub-result : goal.overflow_sub-result
overflow_sub-result c = omega (arith, c.if-trace-gt0.true)

pub overflow_cast-result : goal.overflow_cast-result
overflow_cast-result c = omega (arith, c.follow-trace.ensures.small)

pub returns-then-trace-gt0 : goal.returns-then-trace-gt0
returns-then-trace-gt0 c = intern_some _ _ _ _ (ap (λ x. x.at) c.follow-trace.ensures.is) _ c.if-trace-gt0.true

pub returns-then-not-has_room : goal.returns-then-not-has_room
returns-then-not-has_room c = intern_full _ _ _ _ (ap (λ x. x.at) c.follow-trace.ensures.is) _ (omega (arith, c.if-trace-gt0.false))
    (sym c.has_room.ensures ∙ c.if-not-has_room.true)

pub put-requires : goal.put-requires
put-requires c =
    let has_room : has_space c.args.words.now c.args.links.now c.args.n ≡ true = sym c.has_room.ensures ∙ c.if-not-has_room.false in
    let room : Room c.args.words.now c.args.links.now c.args.n = room_tells _ _ _ has_room in
    let r = room in omega (arith, r.few)

pub link-requires : goal.link-requires
link-requires c =
    let has_room : has_space c.args.words.now c.args.links.now c.args.n ≡ true = sym c.has_room.ensures ∙ c.if-not-has_room.false in
    let room : Room c.args.words.now c.args.links.now c.args.n = room_tells _ _ _ has_room in
    let r = room in r.few

pub overflow_cast-result-2 : goal.overflow_cast-result-2
overflow_cast-result-2 c =
    let has_room : has_space c.args.words.now c.args.links.now c.args.n ≡ true = sym c.has_room.ensures ∙ c.if-not-has_room.false in
    let room : Room c.args.words.now c.args.links.now c.args.n = room_tells _ _ _ has_room in
    let r = room in omega (arith, r.few)

pub overflow_add-result : goal.overflow_add-result
overflow_add-result c =
    let has_room : has_space c.args.words.now c.args.links.now c.args.n ≡ true = sym c.has_room.ensures ∙ c.if-not-has_room.false in
    let room : Room c.args.words.now c.args.links.now c.args.n = room_tells _ _ _ has_room in
    let r = room in omega (arith, r.few)

pub returns : goal.returns
returns c =
    let has_room : has_space c.args.words.now c.args.links.now c.args.n ≡ true = sym c.has_room.ensures ∙ c.if-not-has_room.false in
    let f = c.follow-trace.ensures.is in
    intern_new _ _ _ _ (ap (λ x. x.at) f) _ (omega (arith, c.if-trace-gt0.false)) has_room _ _ _ c.put.ensures (ap (λ x. x.place) f) c.link.ensures
