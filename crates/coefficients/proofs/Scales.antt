-- Laws of the double of some digits, as the code tells the cases apart.
use mathlib.Core.Path.{◌≡◌, sym, ap, ◌∙◌}
use mathlib.Core.List.{List}
use mathlib.Core.Bool.{Bool}
use Prim.Native.Nat.{ℕ, ◌-◌, ◌^◌, ◌<◌, ◌≤◌}
use native.Mathlib.Omega.{arith}
use lib.Dec.{T, le→leb}
use lib.IntN.{pos}
use lib.Ieee.{Float, binary64, mul, div, in_float}
use borrow.Author.Tests.{le-leb, lt-leb}
use Rattle.notation.specs.Scientific.{parsed_of}
use Rattle.notation.specs.declared.Parsed.{Parsed}
use Rattle.coefficients.specs.Coefficient.{double, with_sign, scaled, valued, coefficient_of}
use Rattle.coefficients.specs.declared.Coefficient.TheVariants.{Double, PowerOutOfRange}

-- fourteen digits are a whole number that a double holds
pub held : (n : ℕ) → n < 10 ^ 14 → T (in_float binary64 (pos n))
unfolding in_float
held n h = le→leb n (2 ^ 53) (omega arith)

module _ (m : Bool) (n up down : ℕ) where
  pub large : down ≤ up → 22 < up - down → PowerOutOfRange ≡ scaled m n up down
  unfolding scaled
  large h k = rw (le-leb down up h, lt-leb (up - down) 22 k)

  pub small : up < down → 22 < down - up → PowerOutOfRange ≡ scaled m n up down
  unfolding scaled
  small h k = rw (lt-leb down up h, lt-leb (down - up) 22 k)

  module _ (r x : Float) where
    pub product : down ≤ up → up - down ≤ 22 → x ≡ double (10 ^ (up - down)) → r ≡ with_sign m (mul binary64 (double n) x) → Double r ≡ scaled m n up down
    unfolding scaled
    product h k e q = rw (le-leb down up h, le-leb (up - down) 22 k, ← e) (ap Double q)

    pub quotient : up < down → down - up ≤ 22 → x ≡ double (10 ^ (down - up)) → r ≡ with_sign m (div binary64 (double n) x) → Double r ≡ scaled m n up down
    unfolding scaled
    quotient h k e q = rw (lt-leb down up h, le-leb (down - up) 22 k, ← e) (ap Double q)

-- by what the text was parsed as
pub by_parsed : (t : List ℕ) {r p : Parsed} → r ≡ parsed_of t → r ≡ p → valued p ≡ coefficient_of t
unfolding coefficient_of
by_parsed t e q = ap valued (sym q ∙ e)
