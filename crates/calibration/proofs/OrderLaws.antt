-- The order of the integers, and of two numbers on one side of a value.
use mathlib.Core.Path.{◌≡◌, refl, sym, ap}
use mathlib.Core.Bool.{true, false}
use native.Mathlib.Omega.{arith}
use lib.IntN.{ℤ, pos, negsuc}
use lib.Signed.{lt_z, le_z}
use borrow.Author.Tests.{lt-ltb, le-ltb, ltb-true, ltb-false, le-leb, leb-true}
use Rattle.laws.proofs.Cases.{false≢true}
use Rattle.calibration.specs.Nearest.{nearer}
use Rattle.calibration.specs.declared.nearest.Side.{Side}
use Rattle.calibration.specs.declared.nearest.Side.TheVariants.{NotAbove, Below, Above}

pub lt_trans : (a b c : ℤ) → lt_z a b ≡ true → lt_z b c ≡ true → lt_z a c ≡ true
lt_trans (pos a) (pos b) (pos c) h k = lt-ltb a c (omega (arith, ltb-true a b h, ltb-true b c k))
lt_trans (pos a) (pos b) (negsuc c) h k = k
lt_trans (pos a) (negsuc b) c h k = absurd (false≢true h)
lt_trans (negsuc a) (pos b) (pos c) h k = refl
lt_trans (negsuc a) (pos b) (negsuc c) h k = absurd (false≢true k)
lt_trans (negsuc a) (negsuc b) (pos c) h k = refl
lt_trans (negsuc a) (negsuc b) (negsuc c) h k = lt-ltb c a (omega (arith, ltb-true b a h, ltb-true c b k))

pub lt_irrefl : (a : ℤ) → lt_z a a ≡ false
lt_irrefl (pos a) = le-ltb a a (omega arith)
lt_irrefl (negsuc a) = le-ltb a a (omega arith)

pub le_refl : (a : ℤ) → le_z a a ≡ true
le_refl (pos a) = le-leb a a (omega arith)
le_refl (negsuc a) = le-leb a a (omega arith)

-- not above and not below is the same
pub le_not_lt : (a b : ℤ) → le_z a b ≡ true → lt_z a b ≡ false → a ≡ b
le_not_lt (pos a) (pos b) h k = ap pos (omega (arith, leb-true a b h, ltb-false a b k))
le_not_lt (pos a) (negsuc b) h k = absurd (false≢true h)
le_not_lt (negsuc a) (pos b) h k = absurd (false≢true (sym k))
le_not_lt (negsuc a) (negsuc b) h k = ap negsuc (omega (arith, leb-true b a h, ltb-false b a k))

pub nearer_trans : (side : Side) (a b c : ℤ) → nearer side a b ≡ true → nearer side b c ≡ true → nearer side a c ≡ true
unfolding nearer
nearer_trans NotAbove a b c h k = lt_trans c b a k h
nearer_trans Below a b c h k = lt_trans c b a k h
nearer_trans Above a b c h k = lt_trans a b c h k

pub nearer_irrefl : (side : Side) (a : ℤ) → nearer side a a ≡ false
unfolding nearer
nearer_irrefl NotAbove a = lt_irrefl a
nearer_irrefl Below a = lt_irrefl a
nearer_irrefl Above a = lt_irrefl a
