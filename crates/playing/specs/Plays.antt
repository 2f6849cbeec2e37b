-- Limit steps by the packets that stand end to end in bytes.
use Rattle.std.specs.Prelude.{ℕ, ◌+◌, min, ◌≤◌, ◌≡◌, refl, true, List, length, drop}
use Rattle.archives.specs.Packets.{packets_in, left_in}
use Rattle.database.specs.Rows.{Rows}
use Rattle.limit_state.specs.declared.state.LimitState.{LimitState}
use Rattle.stepping.specs.Step.{after_packets}
use Rattle.playing.specs.declared.Replay.{Replay}

-- 01: "a fresh state takes any count and any APID"
unfoldable pub fresh_state : LimitState
fresh_state = record { fresh = true; apid = 0; count = 0; run = 0; announced = 0 }

-- so many packets and so many more; a count that a word can't hold stays at its most
abbrev pub capped_sum : ℕ → ℕ → ℕ
capped_sum n more = min (n + more) 18446744073709551615

-- Each packet that stands in the bytes was offered in its turn, and no other: the state that they lead to, how many
-- they are, and where the bytes begin that are left over.
pub record Plays (rows : Rows) (name : List ℕ) (begun : Replay) (bytes : List ℕ) (after : Replay) (used : ℕ) : Type 0 where
  pub state : after.state ≡ after_packets rows name begun.state (packets_in bytes)
  pub packets : after.packets ≡ capped_sum begun.packets (length (packets_in bytes))
  pub left : drop used bytes ≡ left_in bytes
  pub within : used ≤ length bytes

pub example : capped_sum 18446744073709551614 3 ≡ 18446744073709551615
example = refl
