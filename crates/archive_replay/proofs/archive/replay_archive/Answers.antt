-- Nothing is read of a file that can't be opened.
use Rattle.replaying.proofs.ReplayLaws.{replayed_start}
use Rattle.archive_replay.proofs.archive.replay_archive.Goals as goal

pub returns-in-Err : goal.returns-in-Err
returns-in-Err g c = replayed_start _ _ c.at_start.ensures
