use Prim.Native.Nat.{◌+◌}
use mathlib.Core.Path.{◌≡◌, sym, ◌∙◌}
use native.Mathlib.Omega.{arith}
use lib.ListN.{length-take}
use Rattle.tables.specs.Sizes.{feeds}
use Rattle.tables.proofs.SizeLaws.{Counted, count_block, count_rest, all_few, rows_whole, rows_open}
use Rattle.tables.proofs.row_count.Goals as goal

pub loop-i-init : goal.loop-i-init
loop-i-init c = record { within = omega arith; few = omega arith; all = omega arith }

pub feeds_in-requires : goal.feeds_in-requires
feeds_in-requires c = simp length-take (omega arith)

pub overflow_add-n : goal.overflow_add-n
overflow_add-n c =
    let block : (Counted c.args.table.now (c.loop-i.n + c.feeds_in.result) (c.loop-i.i + 128)) = count_block c.args.table.now c.loop-i.n c.loop-i.i c.loop-i.invariant 128 c.loop-i-test.true c.feeds_in.ensures in
    let b = block in omega (arith, b.few, b.within)

pub loop-i-preserved : goal.loop-i-preserved
loop-i-preserved c =
    let block : (Counted c.args.table.now (c.loop-i.n + c.feeds_in.result) (c.loop-i.i + 128)) = count_block c.args.table.now c.loop-i.n c.loop-i.i c.loop-i.invariant 128 c.loop-i-test.true c.feeds_in.ensures in
    block

pub feeds_in-requires-2 : goal.feeds_in-requires-2
feeds_in-requires-2 c = simp length-take (omega (arith, c.loop-i-test.false))

pub overflow_add-n-2 : goal.overflow_add-n-2
overflow_add-n-2 c =
    let rest : (c.loop-i.n + c.feeds_in-2.result ≡ feeds c.args.table.now) = count_rest c.args.table.now c.loop-i.n c.loop-i.i c.loop-i.invariant c.feeds_in-2.ensures in
    omega (arith, rest, all_few c.args.table.now _ rest)

pub returns-then-is_whole : goal.returns-then-is_whole
returns-then-is_whole c =
    let rest : (c.loop-i.n + c.feeds_in-2.result ≡ feeds c.args.table.now) = count_rest c.args.table.now c.loop-i.n c.loop-i.i c.loop-i.invariant c.feeds_in-2.ensures in
    rows_whole _ rest (sym c.is_whole.ensures ∙ c.if-is_whole.true)

pub overflow_add-result : goal.overflow_add-result
overflow_add-result c =
    let rest : (c.loop-i.n + c.feeds_in-2.result ≡ feeds c.args.table.now) = count_rest c.args.table.now c.loop-i.n c.loop-i.i c.loop-i.invariant c.feeds_in-2.ensures in
    omega (arith, all_few c.args.table.now _ rest)

pub returns : goal.returns
returns c =
    let rest : (c.loop-i.n + c.feeds_in-2.result ≡ feeds c.args.table.now) = count_rest c.args.table.now c.loop-i.n c.loop-i.i c.loop-i.invariant c.feeds_in-2.ensures in
    rows_open _ rest (sym c.is_whole.ensures ∙ c.if-is_whole.false)
