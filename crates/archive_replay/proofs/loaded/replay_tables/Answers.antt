-- A loaded database answers what the tables do.
use Rattle.replaying.proofs.ReplayLaws.{replayed_start}
use Rattle.archive_replay.proofs.LoadLaws.{replayed_loaded}
use Rattle.archive_replay.proofs.loaded.replay_tables.Goals as goal

pub returns-in-Ok : goal.returns-in-Ok
returns-in-Ok g c = replayed_loaded _ _ _ c.load_full.ensures c.in-Ok.is c.replay_archive.ensures

pub returns-in-Err : goal.returns-in-Err
returns-in-Err g c = replayed_start _ _ c.refuse.ensures
