-- A field that a packet has is a number.
use Rattle.headers.proofs.HeaderLaws.{bits_read, bits_there}
use Rattle.headers.proofs.bits.Goals as goal

pub returns-in-Ok : goal.returns-in-Ok
returns-in-Ok c = bits_read _ _ _ _ c.read_unsigned.ensures _ c.in-Ok.is

pub returns-in-Err : goal.returns-in-Err
returns-in-Err c = let h = c.requires in absurd
    (bits_there _ _ _ _ c.read_unsigned.ensures h.0 h.1 h.2 _ c.in-Err.is)
