-- The column, and its place.
use Rattle.key_rows.proofs.half.Goals as goal

pub returns : goal.returns
returns c = cc
