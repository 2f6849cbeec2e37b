-- `name_bytes::curve_name_of` meets its contract.
use mathlib.Core.Path.{◌∙◌}
use native.Mathlib.Omega.{arith}
use lib.ListN.{length}
use Rattle.name_bytes.specs.Names.{curve_name_of}
use Rattle.name_bytes.proofs.NameLaws.{put_padded, fits, fits_not}
use Rattle.name_bytes.proofs.curve_name_of.Goals as goal

pub returns-then-text-le10 : goal.returns-then-text-le10
unfolding curve_name_of
returns-then-text-le10 c = let s = c.args.text.now in
    rw (fits 10 s (omega arith)) (λ i. record { bytes = (c.put.ensures ∙ put_padded 10 s) i; len = length s })

pub returns : goal.returns
unfolding curve_name_of
returns c = rw (fits_not 10 c.args.text.now (omega arith))
