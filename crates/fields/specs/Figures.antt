-- The packet of 01's figures, which examples read.
use Rattle.std.specs.Prelude.{List, [], ◌∷◌, ℕ}

-- 01: "Packet `08 0A C0 00 00 07 10 03 19 00 FF 85 12 34`"
unfoldable pub packet : List ℕ
packet = 0x08 ∷ 0x0A ∷ 0xC0 ∷ 0x00 ∷ 0x00 ∷ 0x07 ∷ 0x10 ∷ 0x03 ∷ 0x19 ∷ 0x00 ∷ 0xFF ∷ 0x85 ∷ 0x12 ∷ 0x34 ∷ []
