-- Keys that pass the test of being the same are equal.
use mathlib.Core.Path.{◌≡◌, refl, sym, ap, ◌∙◌}
use mathlib.Core.Bool.{true, cond}
use mathlib.Core.List.{List}
use Prim.Native.Nat.{ℕ}
use lib.Dec.{eqb}
use lib.IntN.{ℤ, pos, negsuc}
use lib.ListN.{get_or, drop}
use Rattle.name_bytes.specs.declared.Name.{Name}
use Rattle.name_bytes.specs.declared.CurveName.{CurveName}
use Rattle.name_bytes.proofs.NameLaws.{same_is, same_self}
use Rattle.std.specs.Prelude.{Option, Some, None}
use Rattle.verdicts.specs.Key.{Key, packet, structure, identification, location, parameter, curve, point, texts, range, limits, check, key_words, same_key}

-- Words read back

abbrev name_from : List ℕ → Name
name_from ws = record { bytes = drop 1 ws; len = get_or ws 0 0 }

abbrev curve_from : List ℕ → CurveName
curve_from ws = record { bytes = drop 1 ws; len = get_or ws 0 0 }

-- an integer by its sign and the rest
abbrev integer_from : ℕ → ℕ → ℤ
integer_from sign n = cond (eqb sign 0) (pos n) (negsuc n)

-- an APID, where one is given
abbrev apid_from : ℕ → ℕ → Option ℕ
apid_from given apid = cond (eqb given 0) None (Some apid)

-- the key of key space t, in the order of the constructors, that has these words
abbrev key_from : ℕ → List ℕ → Key
key_from t ws =
    cond (eqb t 0) (packet (get_or ws 0 0) (get_or ws 1 0) (get_or ws 2 0) (get_or ws 3 0) (get_or ws 4 0))
    (cond (eqb t 1) (structure (get_or ws 0 0))
    (cond (eqb t 2) (identification (get_or ws 0 0) (get_or ws 1 0) (apid_from (get_or ws 2 0) (get_or ws 3 0)))
    (cond (eqb t 3) (location (name_from (drop 1 ws)) (get_or ws 0 0))
    (cond (eqb t 4) (parameter (name_from ws))
    (cond (eqb t 5) (curve (curve_from ws))
    (cond (eqb t 6) (point (curve_from (drop 2 ws)) (integer_from (get_or ws 0 0) (get_or ws 1 0)))
    (cond (eqb t 7) (texts (curve_from ws))
    (cond (eqb t 8) (range (curve_from (drop 2 ws)) (integer_from (get_or ws 0 0) (get_or ws 1 0)))
    (cond (eqb t 9) (limits (name_from ws)) (check (name_from (drop 1 ws)) (get_or ws 0 0)))))))))))

-- the first word tells the key space
abbrev key_of : List ℕ → Key
key_of ws = key_from (get_or ws 0 0) (drop 1 ws)

-- a key is read back from its words
key_back : (k : Key) → key_of (key_words k) ≡ k
unfolding key_words
key_back (packet ptype stype apid pi1 pi2) = refl
key_back (structure spid) = refl
key_back (identification ptype stype (Some apid)) = refl
key_back (identification ptype stype None) = refl
key_back (location name spid) = refl
key_back (parameter name) = refl
key_back (curve numbr) = refl
key_back (point numbr (pos n)) = refl
key_back (point numbr (negsuc n)) = refl
key_back (texts numbr) = refl
key_back (range numbr (pos n)) = refl
key_back (range numbr (negsuc n)) = refl
key_back (limits name) = refl
key_back (check name position) = refl

-- the test says what it means
pub same_key_is : (k l : Key) → same_key k l ≡ true → k ≡ l
unfolding same_key
same_key_is k l e = sym (key_back k) ∙ ap key_of (same_is (key_words k) (key_words l) e) ∙ key_back l

-- and every key is the same as itself
pub same_key_self : (k : Key) → same_key k k ≡ true
unfolding same_key
same_key_self k = same_self (key_words k)
