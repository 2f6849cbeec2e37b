-- By whether the naming is of a chain.
use Rattle.met_names.proofs.StepLaws.{linked_chain, linked_met}
use Rattle.names.proofs.firm.is_linked.Goals as goal

pub returns-then-naming_chained : goal.returns-then-naming_chained
returns-then-naming_chained c = linked_chain _ _ _ _ _ _ c.naming_chained.ensures c.if-naming_chained.true _ c.is_asked.ensures

pub returns : goal.returns
returns c = linked_met _ _ _ _ _ _ c.naming_chained.ensures c.if-naming_chained.false _ c.is_met.ensures
