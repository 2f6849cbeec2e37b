-- Keys that their symbols tell apart, see `symbol_exact`: all keys of rows,
-- and all that can be asked for but packets of a large PI1.
use Rattle.std.specs.Prelude.{◌≡◌, refl, Bool, true, false, ◌&&◌, List, [], ◌∷◌, ℕ, ◌^◌, ◌<◌, eqb, ltb, length}
use Rattle.laws.specs.Text.{ascii}
use Rattle.name_bytes.specs.declared.Name.{Name}
use Rattle.name_bytes.specs.declared.CurveName.{CurveName}
use Rattle.name_bytes.specs.Names.{name_of}
use Rattle.verdicts.specs.Key.{Key, packet, structure, identification, location, parameter, curve, point, texts, range, limits, check}
use Rattle.key_symbols.specs.declared.FiveNumbers.{FiveNumbers}

-- every digit is below the base
abbrev pub Digits : ℕ → List ℕ → Type 0
Digits base [] = Unit {0}
Digits base (d ∷ ds) = (d < base) × Digits base ds

-- bytes, as many as there should be
abbrev pub SoManyBytes : ℕ → List ℕ → Type 0
SoManyBytes n bytes = (length bytes ≡ n) × Digits 256 bytes

-- 01: "A name is kept as eight bytes and a length, or ten for curves"
abbrev pub NameBounded : Name → Type 0
NameBounded n = SoManyBytes 8 n.bytes

abbrev pub CurveBounded : CurveName → Type 0
CurveBounded n = SoManyBytes 10 n.bytes

-- a curve's name whose length shares a word with two of its bytes
abbrev pub ValueBounded : CurveName → Type 0
ValueBounded n = CurveBounded n × (n.len < 2 ^ 48)

-- names of bytes, and in bounds what shares a word
unfoldable pub Bounded : Key → Type 0
Bounded (packet ptype stype apid pi1 pi2) = (stype < 2 ^ 32) × (pi1 < 2 ^ 32)
Bounded (structure spid) = Unit {0}
Bounded (identification ptype stype apid) = stype < 2 ^ 32
Bounded (location name spid) = NameBounded name
Bounded (parameter name) = NameBounded name
Bounded (curve numbr) = CurveBounded numbr
Bounded (point numbr x) = ValueBounded numbr
Bounded (texts numbr) = CurveBounded numbr
Bounded (range numbr from) = ValueBounded numbr
Bounded (limits name) = NameBounded name
Bounded (check name position) = NameBounded name

-- The same as a test, see `fits_bounded` and `bounded_fits`

abbrev pub digits : ℕ → List ℕ → Bool
digits base [] = true
digits base (d ∷ ds) = ltb d base && digits base ds

abbrev pub bytes_fit : ℕ → List ℕ → Bool
bytes_fit n bytes = eqb (length bytes) n && digits 256 bytes

abbrev pub value_fits : CurveName → Bool
value_fits n = bytes_fit 10 n.bytes && ltb n.len (2 ^ 48)

unfoldable pub key_fits : Key → Bool
key_fits (packet ptype stype apid pi1 pi2) = ltb stype (2 ^ 32) && ltb pi1 (2 ^ 32)
key_fits (structure spid) = true
key_fits (identification ptype stype apid) = ltb stype (2 ^ 32)
key_fits (location name spid) = bytes_fit 8 name.bytes
key_fits (parameter name) = bytes_fit 8 name.bytes
key_fits (curve numbr) = bytes_fit 10 numbr.bytes
key_fits (point numbr x) = value_fits numbr
key_fits (texts numbr) = bytes_fit 10 numbr.bytes
key_fits (range numbr from) = value_fits numbr
key_fits (limits name) = bytes_fit 8 name.bytes
key_fits (check name position) = bytes_fit 8 name.bytes

-- 01: "The five numbers choose the pid row"
abbrev pub packet_of : FiveNumbers → Key
packet_of n = packet n.ptype n.stype n.apid n.pi1 n.pi2

pub record Examples : Type 0 where
  pub named : key_fits (parameter (name_of (ascii "T1"))) ≡ true
  pub packeted : key_fits (packet 3 25 1 (2 ^ 32) 0) ≡ false

pub examples : Examples
unfolding key_fits name_of
examples = record { named = refl; packeted = refl }
