-- What judging leaves is what indexing reads.
use Rattle.loading.proofs.index_kept.Goals as goal

pub returns : goal.returns
returns c = record { cells = _; judged = c.judge_kept.ensures; indexed = c.index_rows.ensures }
