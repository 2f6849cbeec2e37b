-- `curves::line::climbed` meets its contract: by the signs of the rise and the distance.
use mathlib.Core.Path.{◌≡◌, sym, ap, ap₂, ◌∙◌}
use mathlib.Core.Bool.{not}
use Prim.Native.Nat.{◌*◌}
use native.Mathlib.Omega.{arith}
use lib.IntN.{ℤ, nat_abs, ◌+ℤ◌}
use lib.Signed.{non_neg}
use mir.Syntax.{w64}
use mir.ValLaws.{to_z-of_z}
use Rattle.curves.specs.Line.{result_of}
use Rattle.curves.proofs.IntLaws.{differ, agree}
use Rattle.curves.proofs.FloorLaws.{floor_differ, floor_agree}
use Rattle.curves.proofs.LineLaws.{product_fits}
use Rattle.curves.proofs.line.climbed.Goals as goal

pub product-m-requires : goal.product-m-requires
product-m-requires c =
    let rise-size : c.size.result ≡ nat_abs c.args.rise = c.size.ensures ∙ ap nat_abs (to_z-of_z w64 c.args.rise c.ranges.rise) in
    let over-size : c.size-2.result ≡ nat_abs c.args.over = c.size-2.ensures ∙ ap nat_abs (to_z-of_z w64 c.args.over c.ranges.over) in
    omega (arith, rise-size, over-size)

pub overflow_add-m : goal.overflow_add-m
overflow_add-m c =
    let rise-size : c.size.result ≡ nat_abs c.args.rise = c.size.ensures ∙ ap nat_abs (to_z-of_z w64 c.args.rise c.ranges.rise) in
    let over-size : c.size-2.result ≡ nat_abs c.args.over = c.size-2.ensures ∙ ap nat_abs (to_z-of_z w64 c.args.over c.ranges.over) in
    let product_is : (let a = c.args in c.product-m.result ≡ nat_abs a.rise * nat_abs a.over) = c.product-m.ensures ∙ ap₂ ◌*◌ rise-size over-size in
    omega (arith, product_is, product_fits (nat_abs c.args.rise) (nat_abs c.args.over) c.requires.1 c.requires.2)

pub returns-then-s-t : goal.returns-then-s-t
returns-then-s-t c =
    let rise-size : c.size.result ≡ nat_abs c.args.rise = c.size.ensures ∙ ap nat_abs (to_z-of_z w64 c.args.rise c.ranges.rise) in
    let over-size : c.size-2.result ≡ nat_abs c.args.over = c.size-2.ensures ∙ ap nat_abs (to_z-of_z w64 c.args.over c.ranges.over) in
    let product_is : (let a = c.args in c.product-m.result ≡ nat_abs a.rise * nat_abs a.over) = c.product-m.ensures ∙ ap₂ ◌*◌ rise-size over-size in
    let rise-sign : (not (non_neg c.args.rise) ≡ c.is_negative-s.result) = sym
    (c.is_negative-s.ensures ∙ ap (λ (z : ℤ). not (non_neg z)) (to_z-of_z w64 c.args.rise c.ranges.rise)) in
    let over-sign : (not (non_neg c.args.over) ≡ c.is_negative-t.result) = sym
    (c.is_negative-t.ensures ∙ ap (λ (z : ℤ). not (non_neg z)) (to_z-of_z w64 c.args.over c.ranges.over)) in
    c.below.ensures
    ∙ ap result_of (ap₂ ◌+ℤ◌ (to_z-of_z w64 c.args.y c.ranges.y)
    (floor_differ c.args.rise c.args.over _ c.args.run product_is c.requires.3
    (λ e. differ _ _ c.if-s-t.true (sym rise-sign ∙ e ∙ over-sign))))

pub returns : goal.returns
returns c =
    let rise-size : c.size.result ≡ nat_abs c.args.rise = c.size.ensures ∙ ap nat_abs (to_z-of_z w64 c.args.rise c.ranges.rise) in
    let over-size : c.size-2.result ≡ nat_abs c.args.over = c.size-2.ensures ∙ ap nat_abs (to_z-of_z w64 c.args.over c.ranges.over) in
    let product_is : (let a = c.args in c.product-m.result ≡ nat_abs a.rise * nat_abs a.over) = c.product-m.ensures ∙ ap₂ ◌*◌ rise-size over-size in
    let rise-sign : (not (non_neg c.args.rise) ≡ c.is_negative-s.result) = sym
    (c.is_negative-s.ensures ∙ ap (λ (z : ℤ). not (non_neg z)) (to_z-of_z w64 c.args.rise c.ranges.rise)) in
    let over-sign : (not (non_neg c.args.over) ≡ c.is_negative-t.result) = sym
    (c.is_negative-t.ensures ∙ ap (λ (z : ℤ). not (non_neg z)) (to_z-of_z w64 c.args.over c.ranges.over)) in
    c.above.ensures
    ∙ ap result_of (ap₂ ◌+ℤ◌ (to_z-of_z w64 c.args.y c.ranges.y)
    (floor_agree c.args.rise c.args.over _ c.args.run product_is
    (rise-sign ∙ agree _ _ c.if-s-t.false ∙ sym over-sign)))
