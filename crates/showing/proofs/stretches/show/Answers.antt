-- By how packets are shown.
use Rattle.showing.proofs.ShowLaws.{shown_each, shown_runs, shown_last}
use Rattle.showing.proofs.stretches.show.Goals as goal

pub returns-in-Each : goal.returns-in-Each
returns-in-Each g c = shown_each _ _ _ _ c.in-Each.is

pub returns-in-Runs : goal.returns-in-Runs
returns-in-Runs g c = shown_runs _ _ _ _ c.in-Runs.is c.count_of-in-Runs.ensures c.line_of-in-Runs.ensures c.extend.ensures

pub returns-in-Last : goal.returns-in-Last
returns-in-Last g c = shown_last _ _ _ _ c.in-Last.is
