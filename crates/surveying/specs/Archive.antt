-- What is known of the packets of a file that is read in blocks. No contract can say which bytes the system's read puts
-- into a block; but they stand in it, and it is said of them that none is passed over, taken twice or put elsewhere.
use Rattle.std.specs.Prelude.{◌≡◌, ℕ, ◌-◌, List, length}
use Rattle.lines.specs.Columns.{part_of}
use Rattle.archives.specs.Packets.{packets_in, left_in}
use Rattle.archives.specs.Blocks.{Refilled}
use Rattle.database.specs.Rows.{Rows}
use Rattle.surveying.specs.declared.asking.Question.{Question}
use Rattle.surveying.specs.declared.archive.Standing.{Standing}
use Rattle.surveying.specs.Told.{told}
use Rattle.surveying.specs.Surveys.{tallied, surveyed, Surveys}

-- nothing is read yet
abbrev pub nothing_read : Standing
nothing_read = record { tally = tallied 0 0 0; from = 0; to = 0 }

-- one block: what was left over stands in front of what was read,
-- and of each packet that stands in both together it was asked
pub record BlockSurveyed (rows : Rows) (name : List ℕ) (question : Question) (begun after : Standing) (before block : List ℕ) : Type 0 where
  pub refilled : Refilled begun.from begun.to after.to before block
  pub surveys : Surveys rows name question begun.tally (part_of block 0 after.to) after.tally after.from

-- all blocks: there are bytes, those that were read end to end, whose packets were surveyed
pub record SurveyedFile (rows : Rows) (name : List ℕ) (question : Question) (after : Standing) : Type 0 where
  pub bytes : List ℕ
  pub tally : after.tally ≡ surveyed (told rows name question) (tallied 0 0 0) (packets_in bytes)
  pub left : length (left_in bytes) ≡ after.to - after.from
