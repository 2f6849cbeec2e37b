-- The column, and its place.
use Rattle.key_rows.proofs.byte.Goals as goal

pub returns : goal.returns
returns c = cc
