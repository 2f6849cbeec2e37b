-- What a file counts.
use Rattle.std.specs.Prelude.{◌≡◌, refl, List, ℕ}
use Rattle.comparing.specs.declared.compare.Verdict.TheVariants.{Unread}
use Rattle.tallies.specs.declared.Tally.{Tally}
use Rattle.tallies.specs.Totals.{plus, tally_after, no_tally}
use Rattle.running.specs.Script.{tally_of}

-- a file that can't be read whole counts as a line that can't
unfoldable pub unread_file : Tally
unread_file = tally_after no_tally 0 Unread

-- the tally of a file: of some text that was read, or of none
pub data OfFile (tally : Tally) : Type 0 where
  read : (space text : List ℕ) → tally ≡ tally_of space text → OfFile tally
  not_read : tally ≡ unread_file → OfFile tally

pub example : unread_file.unread ≡ 1
unfolding unread_file tally_after no_tally plus
example = refl
