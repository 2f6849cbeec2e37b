-- Strings: runs of whole bytes of a packet.
use Rattle.std.specs.Prelude.{◌≡◌, refl, cond, List, [], ◌∷◌, ℕ, ◌+◌, ◌*◌, ◌/◌, ◌%◌, eqb, leb, pos, length, take, drop, Result, Ok, Err}
use Rattle.fields.specs.Place.{bit_inside, inside}
use Rattle.laws.specs.Said.{Said, value, refused, free}
use Rattle.units.specs.declared.ByteOffset.{ByteOffset}
use Rattle.string_fields.specs.declared.StringError.{StringError}
use Rattle.string_fields.specs.declared.StringError.TheVariants.{Outside, OffByte, NoBytes}

-- 01: "28, 29 … a bit of the field lies outside; a string not on a byte", "The least number decides"
-- the byte in which a string of n bytes from bit `at` starts; 01 has no string of 0 bytes
unfoldable pub string_at : List ℕ → ℕ → ℕ → Said
string_at p at n =
    cond (eqb n 0) free
    (cond (inside p at (n * 8))
    (cond (eqb (at % 8) 0) (value (pos (at / 8))) (refused 29))
    (refused 28))

unfoldable pub said_string : Result ByteOffset StringError → Said
said_string (Ok from) = value (pos from.0)
said_string (Err Outside) = refused 28
said_string (Err OffByte) = refused 29
said_string (Err NoBytes) = free

-- 01: "A string is answered as the part of the packet it is."
-- n bytes from the byte `from`; nothing where the packet doesn't have them all
unfoldable pub part_at : List ℕ → ℕ → ℕ → List ℕ
part_at p from n = cond (leb (from + n) (length p)) (take n (drop from p)) []

-- two bytes of three: from byte 1, from a bit between, and past the end, which outranks it
of_three : (string_at (7 ∷ 8 ∷ 9 ∷ []) 8 2 ≡ value (pos 1)) × (string_at (7 ∷ 8 ∷ 9 ∷ []) 4 2 ≡ refused 29) × (string_at (7 ∷ 8 ∷ 9 ∷ []) 12 2 ≡ refused 28)
unfolding string_at inside bit_inside
of_three = (refl, refl, refl)

its_part : (part_at (7 ∷ 8 ∷ 9 ∷ []) 1 2 ≡ 8 ∷ 9 ∷ []) × (part_at (7 ∷ 8 ∷ 9 ∷ []) 2 2 ≡ [])
unfolding part_at
its_part = (refl, refl)
