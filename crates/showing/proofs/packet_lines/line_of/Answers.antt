-- Case by case.
use Rattle.showing.proofs.ShowLaws.{line_taken, line_refused}
use Rattle.showing.proofs.packet_lines.line_of.Goals as goal

pub returns-in-Ok : goal.returns-in-Ok
returns-in-Ok c = line_taken _ _ _ c.in-Ok.is

pub returns-in-Err : goal.returns-in-Err
returns-in-Err c = line_refused _ _ _ c.in-Err.is c.number_of.ensures c.place_of.ensures
