-- One byte more.
use mathlib.Core.Path.{ap}
use mathlib.Core.Option.{some}
use native.Mathlib.Numerals.{add-one}
use lib.Seq.{take-suc-set}
use Rattle.escapes.specs.Escapes.{read_in, ended_row}
use Rattle.escapes.proofs.end_row.Goals as goal

pub returns : goal.returns
unfolding read_in ended_row
returns c = rw (add-one) (ap some (take-suc-set c.args.out.now c.args.n 10 c.requires))
