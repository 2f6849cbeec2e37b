-- The row's keys become symbols, and then its columns are stored.
use Rattle.kept.proofs.FirstPassLaws.{row_kept}
use Rattle.kept.proofs.kept.keep_row.Goals as goal

pub returns : goal.returns
returns c = row_kept _ _ _ _ _ _ _ _ _ c.args.keys _ c.args.i c.args.start c.args.table c.requires.keys_bound.1 c.requires.ready.wide
    c.intern_row-ids.ensures c.put_row.ensures.halves_after c.put_row.ensures.bytes_after
