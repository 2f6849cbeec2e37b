-- Numbers of 64 bits as i64, and values that pass one unchanged.
use mathlib.Core.Path.{◌≡◌, refl, sym, ap, ap₂, ◌∙◌}
use mathlib.Core.List.{List, ◌∷◌}
use Prim.Native.Nat.{ℕ, zero, suc, ◌-◌, ◌^◌, ◌<◌, ◌≤◌}
use native.Mathlib.Omega.{arith}
use lib.IntN.{ℤ, pos, negsuc, ◌-ℤ◌}
use mir.Syntax.{w64}
use mir.Val.{SFits, to_z, of_z}
use mir.Facts.{to_z_pos, to_z-of_z}
use borrow.Author.Tests.{lt-ltb, le-ltb}
use Rattle.telling.specs.Words.{word}

pub low_word : (n : ℕ) → n < 2 ^ 63 → to_z w64 n ≡ word n
unfolding word
low_word n h = to_z_pos w64 h ∙ sym (rw (lt-ltb n (2 ^ 63) h))

less_one : (m : ℕ) → negsuc 0 -ℤ pos m ≡ negsuc m
less_one zero = refl
less_one (suc m) = ap negsuc (omega arith)

module _ (n : ℕ) (h : 2 ^ 63 ≤ n) where
  high : negsuc 0 -ℤ to_z w64 (18446744073709551615 - n) ≡ negsuc (18446744073709551615 - n)
  high =
      let b : 18446744073709551615 - n < 2 ^ 63 = omega arith in
      ap (λ (z : ℤ). negsuc 0 -ℤ z) (to_z_pos w64 b) ∙ less_one (18446744073709551615 - n)

  pub high_fits : SFits w64 (negsuc 0 -ℤ to_z w64 (18446744073709551615 - n))
  high_fits = rw high record { sfits = omega arith }

  pub high_word : to_z w64 (of_z w64 (negsuc 0 -ℤ to_z w64 (18446744073709551615 - n))) ≡ word n
  unfolding word
  high_word = to_z-of_z high_fits ∙ high ∙ sym (rw (le-ltb n (2 ^ 63) h))

-- a value that passed its word unchanged, before others
pub kept : {z w : ℤ} {zs ws : List ℤ} → z ≡ w → SFits w64 z → zs ≡ ws → (to_z w64 (of_z w64 z) ∷ zs) ≡ (w ∷ ws)
kept e f q = ap₂ ◌∷◌ (to_z-of_z f ∙ e) q
