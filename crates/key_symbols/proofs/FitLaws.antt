-- The test of a key is what it tests.
use mathlib.Core.Path.{◌≡◌, refl}
use mathlib.Core.Bool.{Bool, true, ◌&&◌}
use mathlib.Core.List.{List, [], ◌∷◌}
use Prim.Native.Nat.{ℕ, ◌^◌}
use lib.Dec.{eqb, ltb}
use lib.ListN.{length, get_or}
use mir.Syntax.{w8}
use mir.Val.{Fits}
use borrow.Author.Tests.{eqb-true, eq-eqb, ltb-true, lt-ltb}
use Rattle.laws.proofs.Cases.{and_left, and_right, and_both}
use Rattle.name_bytes.specs.declared.CurveName.{CurveName}
use Rattle.verdicts.specs.Key.{Key, packet, structure, identification, location, parameter, curve, point, texts, range, limits, check}
use Rattle.key_symbols.specs.Bounded.{Digits, SoManyBytes, ValueBounded, Bounded, digits, bytes_fit, value_fits, key_fits}
use Rattle.key_symbols.proofs.NumberLaws.{digits_all}

-- both of two tests
both : {P Q : Type 0} (s t : Bool) → (s ≡ true → P) → (t ≡ true → Q) → (s && t) ≡ true → P × Q
both s t f g e = (f (and_left s t e), g (and_right s t e))

digits_are : (base : ℕ) (ds : List ℕ) → digits base ds ≡ true → Digits base ds
digits_are base [] e = tt
digits_are base (d ∷ ds) e = both (ltb d base) (digits base ds) (ltb-true d base) (digits_are base ds) e

are_digits : (base : ℕ) (ds : List ℕ) → Digits base ds → digits base ds ≡ true
are_digits base [] h = refl
are_digits base (d ∷ ds) h = and_both (lt-ltb d base h.0) (are_digits base ds h.1)

bytes_are : (n : ℕ) (bytes : List ℕ) → bytes_fit n bytes ≡ true → SoManyBytes n bytes
bytes_are n bytes e = both (eqb (length bytes) n) (digits 256 bytes) (eqb-true (length bytes) n) (digits_are 256 bytes) e

are_bytes : (n : ℕ) (bytes : List ℕ) → SoManyBytes n bytes → bytes_fit n bytes ≡ true
are_bytes n bytes h = and_both (eq-eqb (length bytes) n h.0) (are_digits 256 bytes h.1)

-- an array of bytes
pub array_fits : (n : ℕ) (bytes : List ℕ) → length bytes ≡ n → ((i : ℕ) → Fits w8 (get_or bytes i 0)) → bytes_fit n bytes ≡ true
array_fits n bytes e h = are_bytes n bytes (e, digits_all 256 bytes (λ i. (h i).fits))

value_is : (n : CurveName) → value_fits n ≡ true → ValueBounded n
value_is n e = both (bytes_fit 10 n.bytes) (ltb n.len (2 ^ 48)) (bytes_are 10 n.bytes) (ltb-true n.len (2 ^ 48)) e

is_value : (n : CurveName) → ValueBounded n → value_fits n ≡ true
is_value n h = and_both (are_bytes 10 n.bytes h.0) (lt-ltb n.len (2 ^ 48) h.1)

pub fits_bounded : (k : Key) → key_fits k ≡ true → Bounded k
unfolding key_fits Bounded
fits_bounded (packet ptype stype apid pi1 pi2) e = both (ltb stype (2 ^ 32)) (ltb pi1 (2 ^ 32)) (ltb-true stype (2 ^ 32)) (ltb-true pi1 (2 ^ 32)) e
fits_bounded (structure spid) e = tt
fits_bounded (identification ptype stype apid) e = ltb-true stype (2 ^ 32) e
fits_bounded (location name spid) e = bytes_are 8 name.bytes e
fits_bounded (parameter name) e = bytes_are 8 name.bytes e
fits_bounded (curve numbr) e = bytes_are 10 numbr.bytes e
fits_bounded (point numbr x) e = value_is numbr e
fits_bounded (texts numbr) e = bytes_are 10 numbr.bytes e
fits_bounded (range numbr from) e = value_is numbr e
fits_bounded (limits name) e = bytes_are 8 name.bytes e
fits_bounded (check name position) e = bytes_are 8 name.bytes e

pub bounded_fits : (k : Key) → Bounded k → key_fits k ≡ true
unfolding key_fits Bounded
bounded_fits (packet ptype stype apid pi1 pi2) h = and_both (lt-ltb stype (2 ^ 32) h.0) (lt-ltb pi1 (2 ^ 32) h.1)
bounded_fits (structure spid) h = refl
bounded_fits (identification ptype stype apid) h = lt-ltb stype (2 ^ 32) h
bounded_fits (location name spid) h = are_bytes 8 name.bytes h
bounded_fits (parameter name) h = are_bytes 8 name.bytes h
bounded_fits (curve numbr) h = are_bytes 10 numbr.bytes h
bounded_fits (point numbr x) h = is_value numbr h
bounded_fits (texts numbr) h = are_bytes 10 numbr.bytes h
bounded_fits (range numbr from) h = is_value numbr h
bounded_fits (limits name) h = are_bytes 8 name.bytes h
bounded_fits (check name position) h = are_bytes 8 name.bytes h
