-- Keys: what rows are unique by, and what names refer to.
use Rattle.std.specs.Prelude.{ℕ, Bool, List, [], ◌∷◌, ℤ, pos, negsuc, Option, Some, None}
use Rattle.name_bytes.specs.declared.Name.{Name}
use Rattle.name_bytes.specs.declared.CurveName.{CurveName}
use Rattle.name_bytes.specs.Names.{same_bytes}

-- one constructor for each key space, under the phrase of 01 that lays it down
pub data Key : Type 0 where
  -- pid: "the first five numbers are unique": TYPE, STYPE, APID, PI1_VAL, PI2_VAL
  packet : ℕ → ℕ → ℕ → ℕ → ℕ → Key
  -- pid: "and so is SPID"
  structure : (spid : ℕ) → Key
  -- pic: "Key: TYPE, STYPE, APID; an empty APID is a key of its own"
  identification : ℕ → ℕ → Option ℕ → Key
  -- plf: "Key NAME, SPID"
  location : Name → (spid : ℕ) → Key
  -- pcf: "Key NAME"
  parameter : Name → Key
  -- caf: "Key NUMBR"; mcf, by 02, P1: "IDENT shares its keys with caf NUMBR"
  curve : CurveName → Key
  -- cap: "Key NUMBR and the value of XVALS"
  point : CurveName → ℤ → Key
  -- txf: "Key NUMBR"
  texts : CurveName → Key
  -- txp: "Key NUMBR, FROM's value"
  range : CurveName → ℤ → Key
  -- ocf: "Key NAME"
  limits : Name → Key
  -- ocp: "Key NAME, POS"
  check : Name → ℕ → Key

-- the numbers that a key is told apart by, the first of them by its key space
abbrev name_words : Name → List ℕ
name_words n = n.len ∷ n.bytes

abbrev curve_words : CurveName → List ℕ
curve_words n = n.len ∷ n.bytes

-- an integer by its sign and the rest
abbrev integer_words : ℤ → List ℕ → List ℕ
integer_words (pos n) more = 0 ∷ n ∷ more
integer_words (negsuc n) more = 1 ∷ n ∷ more

abbrev apid_words : Option ℕ → List ℕ
apid_words (Some apid) = 1 ∷ apid ∷ []
apid_words None = 0 ∷ []

unfoldable pub key_words : Key → List ℕ
key_words (packet ptype stype apid pi1 pi2) = 0 ∷ ptype ∷ stype ∷ apid ∷ pi1 ∷ pi2 ∷ []
key_words (structure spid) = 1 ∷ spid ∷ []
key_words (identification ptype stype apid) = 2 ∷ ptype ∷ stype ∷ apid_words apid
key_words (location name spid) = 3 ∷ spid ∷ name_words name
key_words (parameter name) = 4 ∷ name_words name
key_words (curve numbr) = 5 ∷ curve_words numbr
key_words (point numbr x) = 6 ∷ integer_words x (curve_words numbr)
key_words (texts numbr) = 7 ∷ curve_words numbr
key_words (range numbr from) = 8 ∷ integer_words from (curve_words numbr)
key_words (limits name) = 9 ∷ name_words name
key_words (check name position) = 10 ∷ position ∷ name_words name

-- the same key: see `same_key_is`, by which this is equality
unfoldable pub same_key : Key → Key → Bool
same_key k l = same_bytes (key_words k) (key_words l)
