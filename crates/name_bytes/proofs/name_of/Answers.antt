-- `name_bytes::name_of` meets its contract.
use mathlib.Core.Path.{◌∙◌}
use native.Mathlib.Omega.{arith}
use lib.ListN.{length}
use Rattle.name_bytes.specs.Names.{name_of}
use Rattle.name_bytes.proofs.NameLaws.{put_padded, fits, fits_not}
use Rattle.name_bytes.proofs.name_of.Goals as goal

pub returns-then-text-le8 : goal.returns-then-text-le8
unfolding name_of
returns-then-text-le8 c = let s = c.args.text.now in
    rw (fits 8 s (omega arith)) (λ i. record { bytes = (c.put.ensures ∙ put_padded 8 s) i; len = length s })

pub returns : goal.returns
unfolding name_of
returns c = rw (fits_not 8 c.args.text.now (omega arith))
