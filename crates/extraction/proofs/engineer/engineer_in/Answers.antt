-- Once the packet is identified.
use Rattle.outcomes.proofs.OutcomeLaws.{passed_on}
use Rattle.extraction.proofs.EngineerLaws.{engineer_is, engineer_refused}
use Rattle.extraction.proofs.engineer.engineer_in.Goals as goal

pub returns-in_err-identity : goal.returns-in_err-identity
returns-in_err-identity c = engineer_refused _ _ _ _ c.identify_in.ensures _ c.in_err-identity.was
    (passed_on _ c.from_residual.ensures)

pub returns : goal.returns
returns c = engineer_is _ _ _ _ c.identify_in.ensures _ c.in_ok-identity.was c.name_of.ensures
    c.engineer_located.ensures
