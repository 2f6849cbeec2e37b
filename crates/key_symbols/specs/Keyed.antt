-- Keys as symbols: the key space and three numbers below 2 ^ 64 for each key that a row can hold or name.
use Rattle.std.specs.Prelude.{◌≡◌, refl, List, [], ◌∷◌, ℕ, ◌+◌, ◌*◌, ◌%◌, ◌^◌, ℤ, pos, negsuc, take, drop, Option, Some, None}
use Rattle.laws.specs.Text.{ascii}
use Rattle.name_bytes.specs.declared.Name.{Name}
use Rattle.name_bytes.specs.declared.CurveName.{CurveName}
use Rattle.name_bytes.specs.Names.{curve_name_of}
use Rattle.symbols.specs.declared.Symbol.{Symbol}
use Rattle.verdicts.specs.Key.{Key, packet, structure, identification, location, parameter, curve, point, texts, range, limits, check}

-- the number with these digits, the highest first, after the digits of `before`
unfoldable pub number_from : ℕ → ℕ → List ℕ → ℕ
number_from base before [] = before
number_from base before (d ∷ ds) = number_from base (before * base + d) ds

unfoldable pub digits_number : ℕ → List ℕ → ℕ
digits_number base digits = number_from base 0 digits

abbrev pub symbol : (space a b c : ℕ) → Symbol
symbol space a b c = record { space = space; a = a; b = b; c = c }

-- where there is no key
abbrev pub no_symbol : Symbol
no_symbol = symbol 0 0 0 0

-- a name of eight bytes, and a number beside it
unfoldable pub name_symbol : ℕ → Name → ℕ → Symbol
name_symbol space n c = symbol space (digits_number 256 n.bytes) n.len c

-- two numbers below 2 ^ 32
abbrev pub halves : ℕ → ℕ → ℕ
halves high low = high * 2 ^ 32 + low

-- an integer: even from 0 on, odd below it
unfoldable pub integer_word : ℤ → ℕ
integer_word (pos n) = n * 2
integer_word (negsuc n) = n * 2 + 1

-- the last two of ten bytes
abbrev pub last_two : CurveName → ℕ
last_two n = digits_number 256 (drop 8 n.bytes)

-- a name of ten bytes: eight of them, the length, and the other two
unfoldable pub curve_symbol : ℕ → CurveName → Symbol
curve_symbol space n = symbol space (digits_number 256 (take 8 n.bytes)) n.len (last_two n)

-- the same with an integer beside it: the length and the last two bytes share a word, which has 48 bits for the length
unfoldable pub value_symbol : ℕ → CurveName → ℤ → Symbol
value_symbol space n x = symbol space (digits_number 256 (take 8 n.bytes)) (n.len % 2 ^ 48 * 65536 + last_two n) (integer_word x)

-- 01: "an empty APID is a key of its own"
unfoldable pub apid_word : Option ℕ → ℕ
apid_word (Some apid) = apid + 1
apid_word None = 0

-- a key's symbol tells it apart from every other key: see `symbol_exact`.
-- The key spaces are numbered by the key alone, whatever table holds it
unfoldable pub symbol_of : Key → Symbol
symbol_of (packet ptype stype apid pi1 pi2) = symbol 0 (halves ptype stype) (halves apid pi1) pi2
symbol_of (structure spid) = symbol 1 spid 0 0
symbol_of (identification ptype stype apid) = symbol 2 (halves ptype stype) (apid_word apid) 0
symbol_of (location name spid) = name_symbol 3 name spid
symbol_of (parameter name) = name_symbol 4 name 0
symbol_of (curve numbr) = curve_symbol 5 numbr
symbol_of (point numbr x) = value_symbol 6 numbr x
symbol_of (texts numbr) = curve_symbol 7 numbr
symbol_of (range numbr from) = value_symbol 8 numbr from
symbol_of (limits name) = name_symbol 9 name 0
symbol_of (check name position) = name_symbol 10 name position

abbrev pub space_of : Key → ℕ
space_of k = (symbol_of k).space

abbrev c1 : CurveName
c1 = curve_name_of (ascii "C1")

pub record Examples : Type 0 where
  -- the point of the curve C1 at -3
  pub at_point : symbol_of (point c1 (negsuc 2)) ≡ symbol 6 0x4331000000000000 0x20000 5
  -- a curve and a list of texts of one name
  pub of_curve : symbol_of (curve c1) ≡ symbol 5 0x4331000000000000 2 0
  pub of_texts : symbol_of (texts c1) ≡ symbol 7 0x4331000000000000 2 0
  -- APID 0, and none
  pub one_apid : symbol_of (identification 3 25 (Some 0)) ≡ symbol 2 0x300000019 1 0
  pub any_apid : symbol_of (identification 3 25 None) ≡ symbol 2 0x300000019 0 0

pub examples : Examples
unfolding symbol_of curve_symbol value_symbol curve_name_of digits_number number_from integer_word apid_word
examples = record { at_point = refl; of_curve = refl; of_texts = refl; one_apid = refl; any_apid = refl }
