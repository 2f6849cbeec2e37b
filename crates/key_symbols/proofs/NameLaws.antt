-- The names that texts of bytes make are bounded.
use mathlib.Core.Path.{◌≡◌}
use mathlib.Core.List.{List}
use Prim.Native.Nat.{ℕ, zero, suc, ◌-◌, ◌≤◌}
use native.Mathlib.Omega.{arith}
use lib.Dec.{leb}
use lib.ListN.{length, replicate, length-append, length-replicate}
use borrow.Author.Tests.{leb-true}
use Rattle.laws.proofs.Cases.{cond_cases}
use Rattle.name_bytes.specs.Names.{padded, fitting, name_of, curve_name_of}
use Rattle.key_symbols.specs.Bounded.{Digits, NameBounded, CurveBounded, ValueBounded}
use Rattle.key_symbols.proofs.NumberLaws.{digits_append}

module _ (n : ℕ) (text : List ℕ) where
  fitting_short : length (fitting n text) ≤ n
  fitting_short = cond_cases (λ (l : List ℕ). length l ≤ n) (leb (length text) n) (λ t. leb-true _ _ t) (λ _. omega arith)

  fitting_bytes : Digits 256 text → Digits 256 (fitting n text)
  fitting_bytes h = cond_cases (λ (l : List ℕ). Digits 256 l) (leb (length text) n) (λ _. h) (λ _. tt)

  padded_length : length (padded n (fitting n text)) ≡ n
  padded_length = simp (length-append, length-replicate) (omega (arith, fitting_short))

zeros : (n : ℕ) → Digits 256 (replicate n 0)
zeros zero = tt
zeros (suc n) = (omega arith, zeros n)

padded_bytes : (n : ℕ) (text : List ℕ) → Digits 256 text → Digits 256 (padded n (fitting n text))
padded_bytes n text h =
    let k = n - length (fitting n text) in
    digits_append 256 (fitting n text) (replicate k 0) (fitting_bytes n text h) (zeros k)

pub name_bounded : (text : List ℕ) → Digits 256 text → NameBounded (name_of text)
unfolding name_of
name_bounded text h = (padded_length 8 text, padded_bytes 8 text h)

pub curve_bounded : (text : List ℕ) → Digits 256 text → CurveBounded (curve_name_of text)
unfolding curve_name_of
curve_bounded text h = (padded_length 10 text, padded_bytes 10 text h)

-- such a name is at most ten bytes long
pub value_bounded : (text : List ℕ) → Digits 256 text → ValueBounded (curve_name_of text)
unfolding curve_name_of
value_bounded text h = (curve_bounded text h, omega (arith, fitting_short 10 text))
