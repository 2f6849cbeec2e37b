-- What the passes find is what is put.
use Rattle.indexing.proofs.IndexingLaws.{indexed_by}
use Rattle.indexing.proofs.index_rows.Goals as goal

pub returns : goal.returns
returns c = indexed_by c.args.columns.now c.args.bytes.now c.args.cells.now c.args.n _ c.placed-rows.ensures
    _ c.mark_formed.ensures _ c.note_holders.ensures _ _ c.group_rows.ensures
    _ c.byte_column.ensures _ c.put_index.ensures
