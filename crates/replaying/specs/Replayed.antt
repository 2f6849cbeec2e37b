-- What is known of the packets of a file that is read in blocks. No contract can say which bytes the system's read puts
-- into a block; but they stand in it, and it is said of them that none is passed over, taken twice or put elsewhere.
use Rattle.std.specs.Prelude.{ℕ, ◌-◌, ◌≡◌, List, length}
use Rattle.lines.specs.Columns.{part_of}
use Rattle.archives.specs.Packets.{packets_in, left_in}
use Rattle.archives.specs.Blocks.{Refilled}
use Rattle.database.specs.Rows.{Rows}
use Rattle.stepping.specs.Step.{after_packets}
use Rattle.playing.specs.Plays.{fresh_state, capped_sum, Plays}
use Rattle.replaying.specs.declared.Standing.{Standing}

-- nothing is read yet
pub record AtStart (s : Standing) : Type 0 where
  pub state : s.replay.state ≡ fresh_state
  pub packets : s.replay.packets ≡ 0
  pub from : s.from ≡ 0
  pub to : s.to ≡ 0

-- one block: what was left over stands in front of what was read,
-- and each packet that stands in both together was offered
pub record BlockReplayed (rows : Rows) (name : List ℕ) (begun after : Standing) (before block : List ℕ) : Type 0 where
  pub refilled : Refilled begun.from begun.to after.to before block
  pub plays : Plays rows name begun.replay (part_of block 0 after.to) after.replay after.from

-- all blocks: there are bytes, those that were read end to end, whose packets lead from a fresh state to this one
pub record Replayed (rows : Rows) (name : List ℕ) (after : Standing) : Type 0 where
  pub bytes : List ℕ
  pub state : after.replay.state ≡ after_packets rows name fresh_state (packets_in bytes)
  pub packets : after.replay.packets ≡ capped_sum 0 (length (packets_in bytes))
  pub left : length (left_in bytes) ≡ after.to - after.from
