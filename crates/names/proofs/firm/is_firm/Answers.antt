-- By what was read.
use Rattle.met_names.proofs.StepLaws.{firm_reason, firm_broken, firm_on}
use Rattle.names.proofs.firm.is_firm.Goals as goal

pub returns-then-base-ne0 : goal.returns-then-base-ne0
returns-then-base-ne0 c = firm_reason _ _ _ _ _ _ _ _ c.if-base-ne0.true

pub returns-then-is_linked : goal.returns-then-is_linked
returns-then-is_linked c = firm_on _ _ _ _ _ _ _ _ c.if-base-ne0.false _ c.is_linked.ensures c.if-is_linked.true _
    c.is_met.ensures

pub returns : goal.returns
returns c = firm_broken _ _ _ _ _ _ _ _ c.if-base-ne0.false _ c.is_linked.ensures c.if-is_linked.false
