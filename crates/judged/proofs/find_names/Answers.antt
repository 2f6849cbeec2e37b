-- By the columns of the names.
use Rattle.kept.specs.Stored.{name1_column, name2_column}
use Rattle.judged.proofs.PassLaws.{found_by}
use Rattle.judged.proofs.find_names.Goals as goal

pub returns : goal.returns
returns c = let found = found_by c.args.halves.now c.args.holders.now in record {
  found_by = found name1_column c.args.n _ c.args.found1.now _ c.half_column.ensures
      c.find_rows.ensures;
  found_by_2 = found name2_column c.args.n _ c.args.found2.now _ c.half_column-2.ensures c.find_rows-2.ensures;
}
