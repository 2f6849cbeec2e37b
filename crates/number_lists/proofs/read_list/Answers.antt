-- By whether there is a text.
use mathlib.Core.Path.{sym, ◌∙◌}
use native.Mathlib.Omega.{arith}
use Rattle.escapes.specs.Escapes.{read_in}
use Rattle.number_lists.proofs.ListLaws.{list_none, list_some}
use Rattle.number_lists.proofs.read_list.Goals as goal

pub returns-then-text-eq0 : goal.returns-then-text-eq0
unfolding read_in
returns-then-text-eq0 c = record { out_after = sym (list_none _ _ c.if-text-eq0.true); no_more_than = omega arith }

pub returns : goal.returns
returns c = record { out_after = c.read_numbers.ensures.out_after ∙ sym (list_some _ _ c.if-text-eq0.false); no_more_than = c.read_numbers.ensures.no_more_than }
