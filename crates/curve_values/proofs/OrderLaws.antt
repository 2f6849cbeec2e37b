-- The order of the integers, between its two tests.
use mathlib.Core.Path.{◌≡◌, refl, sym}
use mathlib.Core.Bool.{true, false}
use native.Mathlib.Omega.{arith}
use lib.IntN.{ℤ, pos, negsuc}
use lib.Signed.{lt_z, le_z}
use borrow.Author.Tests.{lt-ltb, ltb-true, ltb-false, le-leb, leb-true, leb-false}
use Rattle.laws.proofs.Cases.{false≢true}

pub not_lt : (a b : ℤ) → lt_z a b ≡ false → le_z b a ≡ true
not_lt (pos a) (pos b) h = le-leb b a (omega (arith, ltb-false a b h))
not_lt (pos a) (negsuc b) h = refl
not_lt (negsuc a) (pos b) h = absurd (false≢true (sym h))
not_lt (negsuc a) (negsuc b) h = le-leb a b (omega (arith, ltb-false b a h))

pub not_le : (a b : ℤ) → le_z a b ≡ false → lt_z b a ≡ true
not_le (pos a) (pos b) h = lt-ltb b a (omega (arith, leb-false a b h))
not_le (pos a) (negsuc b) h = refl
not_le (negsuc a) (pos b) h = absurd (false≢true (sym h))
not_le (negsuc a) (negsuc b) h = lt-ltb a b (omega (arith, leb-false b a h))

pub lt_le : (a b : ℤ) → lt_z a b ≡ true → le_z a b ≡ true
lt_le (pos a) (pos b) h = le-leb a b (omega (arith, ltb-true a b h))
lt_le (pos a) (negsuc b) h = absurd (false≢true h)
lt_le (negsuc a) (pos b) h = refl
lt_le (negsuc a) (negsuc b) h = le-leb b a (omega (arith, ltb-true b a h))

pub le_lt : (a b c : ℤ) → le_z a b ≡ true → lt_z b c ≡ true → lt_z a c ≡ true
le_lt (pos a) (pos b) (pos c) h k = lt-ltb a c (omega (arith, leb-true a b h, ltb-true b c k))
le_lt (pos a) (pos b) (negsuc c) h k = k
le_lt (pos a) (negsuc b) c h k = absurd (false≢true h)
le_lt (negsuc a) (pos b) (pos c) h k = refl
le_lt (negsuc a) (pos b) (negsuc c) h k = absurd (false≢true k)
le_lt (negsuc a) (negsuc b) (pos c) h k = refl
le_lt (negsuc a) (negsuc b) (negsuc c) h k = lt-ltb c a (omega (arith, leb-true b a h, ltb-true c b k))
