-- The digits are the fewest that hold the number.
use mathlib.Core.Path.{◌∙◌, ap}
use native.Mathlib.Omega.{arith}
use Rattle.spoken.specs.Spoken.{matched_all}
use Rattle.spoken.proofs.SpokenLaws.{decimal_is}
use Rattle.spoken.proofs.decimal.match_decimal.Goals as goal

pub returns : goal.returns
returns c = c.match_text.ensures ∙ ap (matched_all c.args.line.now c.args.at)
    (decimal_is c.args.n c.decimal-count.result _ (omega arith) c.decimal-count.ensures.len c.decimal-count.ensures.digits)
