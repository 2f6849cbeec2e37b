-- The number is cut to a half, and then all is stored.
use Rattle.kept.proofs.PutLaws.{halves_put}
use Rattle.kept.proofs.columns.put_row.Goals as goal

pub returns : goal.returns
returns c = record { halves_after = halves_put _ _ c.args.i c.args.keys c.args.ids c.args.start _ c.low_half-number.ensures c.put_halves.ensures; bytes_after = c.put_bytes.ensures }
