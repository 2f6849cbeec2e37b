-- `calibration::nearest::choose` meets its contract: by the element's side, and by which of two is nearer.
use mathlib.Core.Path.{◌≡◌, sym, ap₂, ◌∙◌}
use mathlib.Core.Bool.{Bool, true, false, cond}
use lib.IntN.{pos}
use lib.ListN.{get_or}
use Rattle.laws.proofs.Words.{through_word, kept}
use Rattle.calibration.specs.Nearest.{passes, nearer, better}
use Rattle.std.specs.Prelude.{Some}
use Rattle.calibration.proofs.NearestLaws.{better_off, better_first, better_than}
use Rattle.calibration.proofs.nearest.choose.Goals as goal

pub returns-then-not-on_side : goal.returns-then-not-on_side
returns-then-not-on_side c =
    let side-is : (passes c.args.side c.args.v (get_or c.args.xs.now c.args.n (pos 0)) ≡ c.on_side.result) = sym (c.on_side.ensures ∙ ap₂ (passes c.args.side) (through_word c.args.v c.ranges.v.sfits)
    (kept c.item-x.type_inv c.item-x.ensures)) in
    better_off _ _ _ _ _ (side-is ∙ c.if-not-on_side.true)

pub returns-in-None : goal.returns-in-None
returns-in-None c =
    let side-is : (passes c.args.side c.args.v (get_or c.args.xs.now c.args.n (pos 0)) ≡ c.on_side.result) = sym (c.on_side.ensures ∙ ap₂ (passes c.args.side) (through_word c.args.v c.ranges.v.sfits)
    (kept c.item-x.type_inv c.item-x.ensures)) in
    better_first _ _ _ _ _ c.in-None.is (side-is ∙ c.if-not-on_side.false)

pub returns-then-is_nearer : goal.returns-then-is_nearer
returns-then-is_nearer c =
    let side-is : (passes c.args.side c.args.v (get_or c.args.xs.now c.args.n (pos 0)) ≡ c.on_side.result) = sym (c.on_side.ensures ∙ ap₂ (passes c.args.side) (through_word c.args.v c.ranges.v.sfits)
    (kept c.item-x.type_inv c.item-x.ensures)) in
    let chosen : (t : Bool) → c.is_nearer.result ≡ t → (cond t (Some c.args.n) (Some c.in-Some.i) ≡ better c.args.side c.args.xs.now c.args.v c.args.best c.args.n) = λ t e. better_than c.args.side c.args.xs.now c.args.v c.args.n c.args.best _ t c.in-Some.is (side-is ∙ c.if-not-on_side.false)
    (sym (c.is_nearer.ensures ∙ ap₂ (nearer c.args.side) (kept c.item-x.type_inv c.item-x.ensures)
    (kept c.item.type_inv c.item.ensures)) ∙ e) in
    chosen true c.if-is_nearer.true

pub returns-else-is_nearer : goal.returns-else-is_nearer
returns-else-is_nearer c =
    let side-is : (passes c.args.side c.args.v (get_or c.args.xs.now c.args.n (pos 0)) ≡ c.on_side.result) = sym (c.on_side.ensures ∙ ap₂ (passes c.args.side) (through_word c.args.v c.ranges.v.sfits)
    (kept c.item-x.type_inv c.item-x.ensures)) in
    let chosen : (t : Bool) → c.is_nearer.result ≡ t → (cond t (Some c.args.n) (Some c.in-Some.i) ≡ better c.args.side c.args.xs.now c.args.v c.args.best c.args.n) = λ t e. better_than c.args.side c.args.xs.now c.args.v c.args.n c.args.best _ t c.in-Some.is (side-is ∙ c.if-not-on_side.false)
    (sym (c.is_nearer.ensures ∙ ap₂ (nearer c.args.side) (kept c.item-x.type_inv c.item-x.ensures)
    (kept c.item.type_inv c.item.ensures)) ∙ e) in
    chosen false c.if-is_nearer.false
