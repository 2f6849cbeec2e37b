-- The bytes of a line are bytes where those of its table are.
use mathlib.Core.Path.{◌≡◌, refl}
use mathlib.Core.Bool.{Bool, true, false}
use mathlib.Core.List.{List, [], ◌∷◌}
use Prim.Native.Nat.{ℕ, zero, suc, ◌<◌}
use native.Mathlib.Omega.{arith}
use lib.Dec.{eqb}
use lib.ListN.{get_or}
use Rattle.lines.specs.Lines.{Line, lead, on_first, lines_of}

lead_below : (b j i : ℕ) (ls : List Line) (d : Line) (t : Bool) → eqb b 10 ≡ t → b < 256 → ((i : ℕ) → get_or d.bytes i 0 < 256)
    → ((j i : ℕ) → get_or (get_or ls j d).bytes i 0 < 256) → get_or (get_or (lead b ls) j d).bytes i 0 < 256
unfolding lead on_first
lead_below b zero i ls d true e h z f = rw e (omega arith)
lead_below b (suc j) i ls d true e h z f = rw e (f j i)
lead_below b zero zero [] d false e h z f = rw e h
lead_below b zero (suc i) [] d false e h z f = rw e (omega arith)
lead_below b (suc j) i [] d false e h z f = rw e (z i)
lead_below b zero zero (l ∷ ls) d false e h z f = rw e h
lead_below b zero (suc i) (l ∷ ls) d false e h z f = rw e (f 0 i)
lead_below b (suc j) i (l ∷ ls) d false e h z f = rw e (f (suc j) i)

-- the bytes of a line are bytes where those of the table are; d is what reads past the last line
pub lines_below : (table : List ℕ) (d : Line) → ((i : ℕ) → get_or d.bytes i 0 < 256) → ((i : ℕ) → get_or table i 0 < 256)
    → (j i : ℕ) → get_or (get_or (lines_of table) j d).bytes i 0 < 256
unfolding lines_of
lines_below [] d z h j i = z i
lines_below (b ∷ bs) d z h j i = lead_below b j i (lines_of bs) d (eqb b 10) refl (h 0) z (λ j i. lines_below bs d z (λ k. h (suc k)) j i)
