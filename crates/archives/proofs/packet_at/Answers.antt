-- By the two bytes of the length field.
use native.Mathlib.Omega.{arith}
use Rattle.archives.proofs.FrameLaws.{framed_short, framed_cut, framed_whole}
use Rattle.archives.proofs.packet_at.Goals as goal

pub returns-then-bytes-at : goal.returns-then-bytes-at
returns-then-bytes-at c = framed_short _ _ (omega arith)

pub returns-then-room-lt7 : goal.returns-then-room-lt7
returns-then-room-lt7 c = framed_short _ _ (omega arith)

pub returns-then-room-length : goal.returns-then-room-length
returns-then-room-length c = framed_cut _ _ c.wide.ensures.0 c.wide-2.ensures.0 (omega arith)

pub returns : goal.returns
returns c = framed_whole _ _ c.wide.ensures.0 c.wide-2.ensures.0 (omega arith)
