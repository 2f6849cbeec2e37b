use mathlib.Core.Path.{◌≡◌, refl}
use mathlib.Core.List.{map}
use native.Mathlib.Omega.{arith}
use lib.ListN.{length}
use borrow.Author.Rules.{rules}
use Rattle.verdicts.specs.Entries.{table_count}
use Rattle.tables.proofs.ArrayLaws.{count}
use Rattle.kept.proofs.AllKeptLaws.{pass_start, next_short, next_places, next_room, pass_next, pass_count, pass_stored}
use Rattle.kept.proofs.kept.keep_tables.Goals as goal

pub loop-t-init : goal.loop-t-init
loop-t-init c =
    let all : length (map (λ x. x.now) c.args.tables) ≡ table_count = count c.args.tables (search rules) in
    pass_start _ all _ c.requires.ready refl

pub keep_table-kept-requires : goal.keep_table-kept-requires
keep_table-kept-requires c =
    let all : length (map (λ x. x.now) c.args.tables) ≡ table_count = count c.args.tables (search rules) in record { ready = c.loop-t.invariant.ready; t_lt_table_count = (c.loop-t-test.true, next_short _ all _ _ _ _ c.loop-t.invariant c.requires.tables_value.1 c.loop-t-test.true _ c.table_at.ensures c.requires.tables_value.0); table_bound = (next_places _ all _ _ _ _ c.loop-t.invariant c.requires.tables_value.1 c.loop-t-test.true _ c.table_at.ensures, next_room _ all _ _ _ _ c.loop-t.invariant c.requires.tables_value.1 c.loop-t-test.true _ c.table_at.ensures) }

pub loop-t-smaller : goal.loop-t-smaller
loop-t-smaller c = omega (arith, c.loop-t-test.true)

pub loop-t-preserved : goal.loop-t-preserved
loop-t-preserved c =
    let all : length (map (λ x. x.now) c.args.tables) ≡ table_count = count c.args.tables (search rules) in
    pass_next _ all _ _ _ _ c.loop-t.invariant c.requires.tables_value.1 c.loop-t-test.true _ c.table_at.ensures _ _
    c.keep_table-kept.ensures.table_kept c.keep_table-kept.ensures.rows_value c.keep_table-kept.ensures.by_index

pub returns : goal.returns
returns c =
    let all : length (map (λ x. x.now) c.args.tables) ≡ table_count = count c.args.tables (search rules) in record { rows_value = pass_count _ all _ _ _ _ c.loop-t.invariant c.loop-t-test.false; stored = pass_stored _ all _ _ _ _ c.loop-t.invariant c.loop-t-test.false; situations = c.loop-t.invariant.situated; same_sizes = c.loop-t.invariant.sizes; hold_bytes = λ t i ZZ9. c.loop-t.invariant.below t i (omega (arith, c, c.loop-t-test.false)) }
