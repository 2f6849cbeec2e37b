-- The columns are put one after the other.
use Rattle.index_columns.proofs.ColumnLaws.{all_put}
use Rattle.index_columns.proofs.put_index.Goals as goal

pub returns : goal.returns
returns c = rw (← c.placed-rows.ensures)
    (all_put c.args.columns.now c.args.tables.now c.args.holders.now c.args.firsts.now c.args.nexts.now c.placed-rows.result _ _ _ _ _
    c.put_halves.ensures c.put_halves-2.ensures
    c.put_halves-3.ensures
    c.put_numbers.ensures c.put_tables.ensures)
