-- A magnitude with its sign, as a signed word of 64 bits holds it.
use mathlib.Core.Path.{◌≡◌, refl, ◌∙◌}
use Prim.Native.Nat.{ℕ, zero, suc, ◌^◌, ◌<◌}
use lib.IntN.{pos, neg_ℤ, nat_abs, ◌-ℤ◌, +ℤ_idl}
use mir.Syntax.{w64}
use mir.Val.{SFits, to_z, of_z}
use mir.Facts.{to_z_pos, to_z-of_z}
use Rattle.laws.proofs.Words.{fits_size}

-- a minus leaves the magnitude
pub size_minus : (n : ℕ) → nat_abs (neg_ℤ (pos n)) ≡ n
size_minus zero = refl
size_minus (suc n) = refl

-- `n as i64`
pub as_pos : (n : ℕ) → n < 2 ^ 63 → to_z w64 n ≡ pos n
as_pos n h = to_z_pos w64 h

-- `-(n as i64)`, as an integer, as what a word holds, and as what is read from that word
minus_word : (n : ℕ) → n < 2 ^ 63 → pos 0 -ℤ to_z w64 n ≡ neg_ℤ (pos n)
minus_word n h = rw (as_pos n h) (+ℤ_idl (neg_ℤ (pos n)))

pub minus_fits : (n : ℕ) → n < 2 ^ 63 → SFits w64 (pos 0 -ℤ to_z w64 n)
minus_fits n h = rw (minus_word n h) (fits_size (neg_ℤ (pos n)) (rw (size_minus n) h))

pub as_minus : (n : ℕ) → n < 2 ^ 63 → to_z w64 (of_z w64 (pos 0 -ℤ to_z w64 n)) ≡ neg_ℤ (pos n)
as_minus n h = to_z-of_z (minus_fits n h) ∙ minus_word n h
