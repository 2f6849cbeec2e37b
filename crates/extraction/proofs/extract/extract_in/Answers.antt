-- Once the packet is identified.
use Rattle.outcomes.proofs.OutcomeLaws.{passed_on}
use Rattle.extraction.proofs.ExtractLaws.{extract_read, extract_refused}
use Rattle.extraction.proofs.extract.extract_in.Goals as goal

pub returns-in_err-identity : goal.returns-in_err-identity
returns-in_err-identity c = extract_refused _ _ _ _ c.identify_in.ensures _ c.in_err-identity.was
    (passed_on _ c.from_residual.ensures)

pub returns : goal.returns
returns c = extract_read _ _ _ _ c.identify_in.ensures _ c.in_ok-identity.was
    c.name_of.ensures c.read.ensures
