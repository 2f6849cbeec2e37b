-- The first TAB of what is left.
use mathlib.Core.Path.{ap, ◌∙◌}
use Prim.Native.Nat.{ℕ, ◌+◌}
use native.Mathlib.Omega.{arith}
use lib.ListN.{length, length-drop}
use Rattle.lines.proofs.ColumnLaws.{part_rest}
use Rattle.scripts.specs.Words.{upto}
use Rattle.scripts.proofs.operands.column_end.Goals as goal

pub overflow_add-result : goal.overflow_add-result
overflow_add-result c = let a = c.args in
    let p = c.part.ensures ∙ part_rest a.text.now a.start (length a.text.now) (omega arith) in
    let l = ap length p ∙ length-drop a.start a.text.now in
    omega arith

pub returns : goal.returns
returns c = let a = c.args in
    let p = c.part.ensures ∙ part_rest a.text.now a.start (length a.text.now) (omega arith) in
    ap (λ (n : ℕ). a.start + n) (c.find_byte.ensures.0 ∙ ap (upto 9) p)
