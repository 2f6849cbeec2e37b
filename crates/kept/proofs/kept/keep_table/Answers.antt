use Prim.Native.Nat.{◌<◌}
use native.Mathlib.Omega.{arith}
use mathlib.Core.Path.{refl}
use lib.ListN.{length}
use Rattle.lines.specs.Lines.{lines_of}
use Rattle.lines.proofs.LineLaws.{next_bounds}
use Rattle.kept.proofs.FirstPassLaws.{walk_start, walk_below, walk_room, walk_more, walk_rows, walk_end, ready_on}
use Rattle.kept.proofs.kept.keep_table.Goals as goal

pub loop-a-init : goal.loop-a-init
loop-a-init c = walk_start _ _ _ _ _ c.requires.ready

pub overflow_add-i : goal.overflow_add-i
overflow_add-i c =
    let below : c.loop-a.j < length (lines_of c.args.table.now) = walk_below _ _ _ _ _ _ _ _ c.loop-a.invariant c.loop-a-test.true in
    omega (arith, below, c.requires.table_bound.0)

pub overflow_cast-start : goal.overflow_cast-start
overflow_cast-start c = omega (arith, c.loop-a-test.true, c.requires.t_lt_table_count.1)

pub overflow_cast-t : goal.overflow_cast-t
overflow_cast-t c = omega (arith, c.requires.t_lt_table_count.0)

pub keep_row-count-requires : goal.keep_row-count-requires
keep_row-count-requires c =
    let below : c.loop-a.j < length (lines_of c.args.table.now) = walk_below _ _ _ _ _ _ _ _ c.loop-a.invariant c.loop-a-test.true in record {
      ready = ready_on c.loop-a.invariant.kept.onward c.requires.ready;
      keys_bound = (
        walk_room _ _ _ _ _ _ _ _ c.loop-a.invariant c.loop-a-test.true _ _ c.kind_of.ensures c.line_keys-line.ensures.keys_value c.requires.table_bound.1,
        omega
            (arith, below, c.requires.table_bound.0),
      );
    }

pub overflow_add-j : goal.overflow_add-j
overflow_add-j c =
    let below : c.loop-a.j < length (lines_of c.args.table.now) = walk_below _ _ _ _ _ _ _ _ c.loop-a.invariant c.loop-a-test.true in
    omega
    (arith, below, c.requires.table_bound.0)

pub loop-a-smaller : goal.loop-a-smaller
loop-a-smaller c = let b = next_bounds c.args.table.now c.loop-a.a _ refl c.loop-a-test.true in
    omega (arith, b.further, b.within, c.line_keys-line.ensures.next_value)

pub loop-a-preserved : goal.loop-a-preserved
loop-a-preserved c = walk_more _ _ _ _ _ _ _ _ c.loop-a.invariant c.loop-a-test.true _ _ c.kind_of.ensures c.line_keys-line.ensures.keys_value _ _
    c.line_keys-line.ensures.next_value
    c.keep_row-count.ensures

pub overflow_add-result : goal.overflow_add-result
overflow_add-result c = omega (arith, c.loop-a.invariant.few, c.requires.table_bound.0)

pub returns : goal.returns
returns c = record {
  rows_value = walk_rows _ _ _ _ _ _ _ _ c.loop-a.invariant c.loop-a-test.false;
  table_kept = walk_end _ _ _ _ _ _ _ _ c.loop-a.invariant c.loop-a-test.false;
  by_index = λ i. omega
      (arith, c.shared_slice_known-1.given i);
}
