-- The field is its column's.
use Rattle.decoding.proofs.mcf_ident.Goals as goal

pub returns : goal.returns
returns c = c.curve_at.ensures
