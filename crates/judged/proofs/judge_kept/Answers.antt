-- What each pass leaves is what the next ones read.
use Rattle.judged.proofs.judge_kept.Goals as goal

pub returns : goal.returns
returns c = record {
  sounds = _;
  holders = _;
  counts = _;
  found1 = _;
  found2 = _;
  sound = c.sound_rows.ensures;
  held = c.holder_rows.ensures;
  counted = c.count_cells.ensures;
  one = c.find_names.ensures.found_by;
  two = c.find_names.ensures.found_by_2;
  judged = c.judge_found.ensures;
}
