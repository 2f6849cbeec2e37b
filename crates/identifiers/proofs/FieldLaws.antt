-- A field that starts on a byte, read in the bytes from there on.
use mathlib.Core.Path.{◌≡◌, refl, ap₂}
use mathlib.Core.Bool.{◌&&◌}
use mathlib.Core.List.{List}
use Prim.Native.Nat.{ℕ, zero, suc, ◌+◌, ◌-◌, ◌*◌, ◌/◌, ◌%◌, ◌^◌}
use native.Mathlib.Omega.{arith}
use lib.Dec.{ltb}
use lib.ListN.{length, get_or, drop, length-drop}
use lib.Seq.{get_or-drop}
use borrow.Author.Tests.{lt-ltb, ltb-true}
use Rattle.laws.proofs.At.{same_test}
use Rattle.fields.specs.Bits.{bit_at, number_at}
use Rattle.fields.specs.Place.{bit_inside, inside}
use Rattle.fields.specs.Field.{field_at, unsigned_at}

module _ (p : List ℕ) (byte : ℕ) where
  bit_drop : (k : ℕ) → bit_at (drop byte p) (0 + k) ≡ bit_at p (byte * 8 + k)
  unfolding bit_at
  bit_drop k =
      rw (get_or-drop)
      (ap₂ (λ (x y : ℕ). get_or p x 0 / 2 ^ (7 - y) % 2) (omega arith) (omega arith))

  bit_inside_drop : (k : ℕ) → bit_inside (drop byte p) (0 + k) ≡ bit_inside p (byte * 8 + k)
  unfolding bit_inside
  bit_inside_drop k =
      rw (length-drop)
      (same_test (ltb (0 + k) ((length p - byte) * 8)) (ltb (byte * 8 + k) (length p * 8))
      (λ t. lt-ltb (byte * 8 + k) (length p * 8) (omega (arith, ltb-true (0 + k) ((length p - byte) * 8) t)))
      (λ t. lt-ltb (0 + k) ((length p - byte) * 8) (omega (arith, ltb-true (byte * 8 + k) (length p * 8) t))))

  number_drop : (n : ℕ) → number_at (drop byte p) 0 n ≡ number_at p (byte * 8) n
  unfolding number_at
  number_drop zero = refl
  number_drop (suc n) = ap₂ (λ (x y : ℕ). x * 2 + y) (number_drop n) (bit_drop n)

  inside_drop : (n : ℕ) → inside (drop byte p) 0 n ≡ inside p (byte * 8) n
  unfolding inside
  inside_drop zero = refl
  inside_drop (suc n) = ap₂ ◌&&◌ (inside_drop n) (bit_inside_drop n)

  pub unsigned_drop : (n : ℕ) → unsigned_at (drop byte p) 0 n ≡ unsigned_at p (byte * 8) n
  unfolding unsigned_at field_at
  unsigned_drop n = rw (inside_drop n, number_drop n)
