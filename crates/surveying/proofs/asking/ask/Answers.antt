-- By the question.
use Rattle.std.proofs.Common.{ap, ◌∙◌}
use Rattle.surveying.specs.Told.{tell_identity, tell_reading, tell_engineered, told}
use Rattle.surveying.proofs.asking.ask.Goals as goal

pub returns-in-Identify : goal.returns-in-Identify
unfolding told
returns-in-Identify c = rw c.in-Identify.is (c.tell_identity.ensures ∙ ap tell_identity c.identify_in.ensures)

pub returns-in-Extract : goal.returns-in-Extract
unfolding told
returns-in-Extract c = rw c.in-Extract.is (c.tell_reading.ensures ∙ ap tell_reading c.extract_in.ensures)

pub returns-in-Engineer : goal.returns-in-Engineer
unfolding told
returns-in-Engineer c = rw c.in-Engineer.is (c.tell_engineered.ensures ∙ ap tell_engineered c.engineer_in.ensures)
