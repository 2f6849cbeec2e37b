-- Tests joined.
use mathlib.Core.Path.{◌≡◌, refl, ap, sym}
use mathlib.Core.Bool.{Bool, true, false, not, ◌&&◌, ◌||◌, or-false}
use Prim.Native.Nat.{ℕ}
use lib.Dec.{eqb, ltb, leb}
use borrow.Author.Tests.{ltb-true, ltb-false, le-leb, lt-leb}
use Rattle.laws.specs.Prefix.{flag}
use Rattle.laws.proofs.Cases.{bool_cases, false≢true}

-- two tests that hold together
pub same_test : (s t : Bool) → (s ≡ true → t ≡ true) → (t ≡ true → s ≡ true) → s ≡ t
same_test true t f g = sym (f refl)
same_test false true f g = g refl
same_test false false f g = refl

pub or_both : (a b : Bool) → (a || b) ≡ false → (a ≡ false) × (b ≡ false)
or_both true b e = absurd (false≢true (sym e))
or_both false b e = (refl, e)

pub not_or : (a b : Bool) → not (a || b) ≡ (not a && not b)
not_or true b = refl
not_or false b = refl

pub spread : (t a b : Bool) → (t && (a || (b || false))) ≡ ((t && a) || (t && b))
spread true a b = ap (λ (z : Bool). a || z) (or-false b)
spread false a b = refl

pub flag_is : (t : Bool) → eqb (flag t) 1 ≡ t
flag_is true = refl
flag_is false = refl

pub most_one : (a : ℕ) → leb a 1 ≡ not (ltb 1 a)
most_one a = bool_cases (ltb 1 a) (λ q. rw q (lt-leb a 1 (ltb-true 1 a q))) (λ q. rw q (le-leb a 1 (ltb-false 1 a q)))
