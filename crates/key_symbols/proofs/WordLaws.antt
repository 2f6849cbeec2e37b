-- Parts of a key as words, as the code makes them.
use mathlib.Core.Path.{◌≡◌, refl, sym, ap}
use mathlib.Core.Bool.{true, false}
use mathlib.Core.List.{List}
use Prim.Native.Nat.{ℕ, suc, ◌+◌, ◌-◌, ◌*◌, ◌^◌, ◌≤◌, ◌<◌}
use native.Mathlib.Omega.{arith}
use lib.Dec.{T}
use lib.IntN.{ℤ, pos, negsuc, nat_abs, ◌-ℤ◌}
use lib.ListN.{length, take, drop, length-take, length-drop}
use lib.Seq.{take_all}
use lib.Signed.{lt_z, non_neg}
use mir.Syntax.{w64}
use mir.Val.{SFits}
use borrow.Author.Tests.{ltb-true, le-ltb}
use Rattle.laws.proofs.Cases.{false≢true}
use Rattle.key_symbols.specs.Keyed.{integer_word}

-- z is what is doubled in the word of x
pub record Doubled (x z : ℤ) (odd : ℕ) : Type 0 where
  pub fits : SFits w64 z
  pub up : T (non_neg z)
  pub word : nat_abs z * 2 + odd ≡ integer_word x
  pub room : nat_abs z * 2 + odd < 2 ^ 64

-- from 0 on the integer itself
pub doubled_up : (x : ℤ) → SFits w64 x → lt_z x (pos 0) ≡ false → Doubled x x 0
unfolding integer_word
doubled_up (pos n) f e = record { fits = f; up = tt; word = omega arith; room = omega (arith, f.sfits) }
doubled_up (negsuc n) f e = absurd (false≢true (sym e))

-- below 0 how far it is below -1
below_one : (n : ℕ) → negsuc 0 -ℤ negsuc n ≡ pos n
below_one n = rw (le-ltb (suc n) 1 (omega arith)) (ap pos (omega arith))

pub doubled_down : (x : ℤ) → SFits w64 x → lt_z x (pos 0) ≡ true → Doubled x (negsuc 0 -ℤ x) 1
unfolding integer_word
doubled_down (pos n) f e = absurd (omega (arith, ltb-true n 0 e))
doubled_down (negsuc n) f e =
    rw (below_one n) (record { fits = record { sfits = f.sfits }; up = tt; word = refl; room = omega (arith, f.sfits) })

-- a part of a list is as long as it says
pub part_length : (l : List ℕ) (from end : ℕ) → from ≤ end → end ≤ length l → length (take (end - from) (drop from l)) ≡ end - from
part_length l from end h k = simp (length-take, length-drop) (omega arith)

-- the last two of ten
pub last_two_lem : (l : List ℕ) → length l ≡ 10 → take 2 (drop 8 l) ≡ drop 8 l
last_two_lem l e = take_all 2 (drop 8 l) (simp length-drop (omega arith))
