-- `curves::line::drawn` meets its contract: the three differences, of small magnitude.
use mathlib.Core.Path.{◌≡◌, ap, ap₂, ◌∙◌}
use native.Mathlib.Omega.{arith}
use lib.IntN.{nat_abs, ◌+ℤ◌, ◌-ℤ◌, ◌*ℤ◌}
use mir.Syntax.{w64}
use mir.Val.{to_z, of_z}
use Rattle.curves.specs.Floor.{floor_div}
use Rattle.curves.specs.Line.{height_at, result_of}
use Rattle.curves.proofs.IntLaws.{through, size_minus, apart, gap_fits, gap_is}
use Rattle.curves.proofs.LineLaws.{Near, near}
use Rattle.curves.proofs.line.drawn.Goals as goal

pub minus-requires : goal.minus-requires
minus-requires c =
    let small : Near c.args.from c.args.to c.args.x = near _ _ _ c.requires.0 c.requires.1 in
    let n = small in gap_fits c.args.to.x c.args.from.x (omega arith) (omega arith)

pub minus-rise-requires : goal.minus-rise-requires
minus-rise-requires c =
    let small : Near c.args.from c.args.to c.args.x = near _ _ _ c.requires.0 c.requires.1 in
    let n = small in gap_fits c.args.to.y c.args.from.y
    (omega arith) (omega arith)

pub minus-over-requires : goal.minus-over-requires
minus-over-requires c =
    let small : Near c.args.from c.args.to c.args.x = near _ _ _ c.requires.0 c.requires.1 in
    let n = small in gap_fits c.args.x
    c.args.from.x (omega arith) (omega arith)

pub climbed-requires : goal.climbed-requires
climbed-requires c =
    let small : Near c.args.from c.args.to c.args.x = near _ _ _ c.requires.0 c.requires.1 in
    let rise-is : (let a = c.args in to_z w64 (of_z w64 c.minus-rise.result) ≡ a.to.y -ℤ a.from.y) = let n = small in gap_is c.args.to.y c.args.from.y (omega arith)
    (omega arith) c.minus-rise.type_inv c.minus-rise.ensures in
    let over-is : (let a = c.args in to_z w64 (of_z w64 c.minus-over.result) ≡ a.x -ℤ a.from.x) = let n = small in gap_is c.args.x c.args.from.x
    (omega arith) (omega arith) c.minus-over.type_inv c.minus-over.ensures in
    let run_is : (let a = c.args in to_z w64 (of_z w64 c.minus.result) ≡ a.to.x -ℤ a.from.x) = let n = small in gap_is c.args.to.x c.args.from.x (omega arith) (omega arith) c.minus.type_inv
    c.minus.ensures in
    let run-size : (let a = c.args in c.size-run.result ≡ nat_abs (a.to.x -ℤ a.from.x)) = c.size-run.ensures ∙ ap nat_abs run_is in
    let n = small in
    let a = c.args in
    rw (through a.from.y (omega arith), rise-is, over-is, run-size)
    (omega (
      arith,
      size_minus a.to.y a.from.y,
      size_minus a.x a.from.x,
      size_minus a.to.x a.from.x,
      apart a.from.x a.to.x
          n.rises,
    ))

pub returns : goal.returns
unfolding height_at
returns c =
    let small : Near c.args.from c.args.to c.args.x = near _ _ _ c.requires.0 c.requires.1 in
    let rise-is : (let a = c.args in to_z w64 (of_z w64 c.minus-rise.result) ≡ a.to.y -ℤ a.from.y) = let n = small in gap_is c.args.to.y c.args.from.y (omega arith)
    (omega arith) c.minus-rise.type_inv c.minus-rise.ensures in
    let over-is : (let a = c.args in to_z w64 (of_z w64 c.minus-over.result) ≡ a.x -ℤ a.from.x) = let n = small in gap_is c.args.x c.args.from.x
    (omega arith) (omega arith) c.minus-over.type_inv c.minus-over.ensures in
    let run_is : (let a = c.args in to_z w64 (of_z w64 c.minus.result) ≡ a.to.x -ℤ a.from.x) = let n = small in gap_is c.args.to.x c.args.from.x (omega arith) (omega arith) c.minus.type_inv
    c.minus.ensures in
    let run-size : (let a = c.args in c.size-run.result ≡ nat_abs (a.to.x -ℤ a.from.x)) = c.size-run.ensures ∙ ap nat_abs run_is in
    let n = small in
    c.climbed.ensures
    ∙ ap result_of (ap₂ ◌+ℤ◌ (through c.args.from.y (omega arith)) (ap₂ floor_div (ap₂ ◌*ℤ◌ rise-is over-is) run-size))
