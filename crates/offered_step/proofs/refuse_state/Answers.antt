-- By the sizes of the tables.
use Rattle.offered_step.proofs.OfferedLaws.{fit_no_state, size_no_state}
use Rattle.offered_step.proofs.refuse_state.Goals as goal

pub returns-in-Ok : goal.returns-in-Ok
returns-in-Ok c = fit_no_state _ c.check_sizes.ensures c.in-Ok.is

pub returns-in-Err : goal.returns-in-Err
returns-in-Err c = size_no_state _ c.check_sizes.ensures _ c.from.ensures c.in-Err.is
