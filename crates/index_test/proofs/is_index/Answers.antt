-- The entries rise, and there are as many as packets.
use mathlib.Core.Path.{ap, ◌∙◌}
use lib.Dec.{eqb}
use Rattle.index_test.proofs.TestLaws.{all_rise, none_rise}
use Rattle.index_test.proofs.is_index.Goals as goal

pub returns-then-not-rises : goal.returns-then-not-rises
returns-then-not-rises c = none_rise _ _ c.rises.ensures c.if-not-rises.true

pub returns : goal.returns
returns c = ap (eqb _) c.count_packets-count.ensures ∙ all_rise _ _ c.rises.ensures c.if-not-rises.false
