-- Symbols are told apart as the keys are.
use mathlib.Core.Path.{◌≡◌, refl, sym, ap, ap₂, ◌∙◌}
use mathlib.Core.Bool.{cond}
use mathlib.Core.List.{List, ◌++◌}
use Prim.Native.Nat.{ℕ, ◌+◌, ◌-◌, ◌/◌, ◌%◌, ◌^◌, ◌<◌}
use native.Mathlib.Omega.{arith}
use native.Mathlib.Nat.{mul-mod_left, mul-div_cancel, mod-eq_of_lt}
use lib.Arith.{digits_div, digits_mod}
use lib.Dec.{eqb}
use lib.IntN.{ℤ, pos, negsuc}
use lib.ListN.{length, take, drop, take-append-drop, length-take, length-drop}
use borrow.Author.Tests.{ne_eqb}
use Rattle.laws.proofs.At.{same_test}
use Rattle.name_bytes.specs.declared.Name.{Name}
use Rattle.name_bytes.specs.declared.CurveName.{CurveName}
use Rattle.std.specs.Prelude.{Option, Some, None}
use Rattle.symbols.specs.declared.Symbol.{Symbol}
use Rattle.symbols.specs.Symbols.{same_symbol}
use Rattle.symbols.proofs.SameLaws.{same_is, same_self}
use Rattle.verdicts.specs.Key.{Key, packet, structure, identification, location, parameter, curve, point, texts, range, limits, check, same_key}
use Rattle.verdicts.proofs.KeyLaws.{same_key_is, same_key_self}
use Rattle.key_symbols.specs.Keyed.{digits_number, last_two, name_symbol, curve_symbol, value_symbol, integer_word, apid_word, symbol_of}
use Rattle.key_symbols.specs.Bounded.{NameBounded, CurveBounded, ValueBounded, Bounded}
use Rattle.key_symbols.proofs.NumberLaws.{digits_of, digits_back, digits_take, digits_drop, number_below}

-- Keys read back

abbrev name_from : Symbol → Name
name_from s = record { bytes = digits_of 256 8 s.a; len = s.b }

-- of eight bytes and a length, with the number of two more
abbrev ten_from : Symbol → ℕ → ℕ → CurveName
ten_from s len last = record { bytes = digits_of 256 8 s.a ++ digits_of 256 2 last; len = len }

abbrev curve_from : Symbol → CurveName
curve_from s = ten_from s s.b s.c

abbrev value_from : Symbol → CurveName
value_from s = ten_from s (s.b / 65536) (s.b % 65536)

abbrev integer_from : ℕ → ℤ
integer_from c = cond (eqb (c % 2) 0) (pos (c / 2)) (negsuc (c / 2))

abbrev apid_from : ℕ → Option ℕ
apid_from b = cond (eqb b 0) None (Some (b - 1))

-- the key with this symbol
abbrev key_from : Symbol → Key
key_from s =
    cond (eqb s.space 0) (packet (s.a / 2 ^ 32) (s.a % 2 ^ 32) (s.b / 2 ^ 32) (s.b % 2 ^ 32) s.c)
    (cond (eqb s.space 1) (structure s.a)
    (cond (eqb s.space 2) (identification (s.a / 2 ^ 32) (s.a % 2 ^ 32) (apid_from s.b))
    (cond (eqb s.space 3) (location (name_from s) s.c)
    (cond (eqb s.space 4) (parameter (name_from s))
    (cond (eqb s.space 5) (curve (curve_from s))
    (cond (eqb s.space 6) (point (value_from s) (integer_from s.c))
    (cond (eqb s.space 7) (texts (curve_from s))
    (cond (eqb s.space 8) (range (value_from s) (integer_from s.c))
    (cond (eqb s.space 9) (limits (name_from s)) (check (name_from s) s.c))))))))))

name_back : (space : ℕ) (n : Name) (c : ℕ) → NameBounded n → name_from (name_symbol space n c) ≡ n
unfolding name_symbol
name_back space n c h = λ i. record { bytes = digits_back 256 8 n.bytes h.0 h.1 i; len = n.len }

last_below : (n : CurveName) → CurveBounded n → last_two n < 65536
last_below n h =
    let e : length (drop 8 n.bytes) ≡ 2 = simp length-drop (omega (arith, h.0)) in
    rw e at (number_below (drop 8 n.bytes) (digits_drop 256 8 n.bytes h.1))

ten_back : (n : CurveName) → CurveBounded n → digits_of 256 8 (digits_number 256 (take 8 n.bytes)) ++ digits_of 256 2 (last_two n) ≡ n.bytes
ten_back n h =
    ap₂ (λ (x y : List ℕ). x ++ y)
    (digits_back 256 8 (take 8 n.bytes) (simp length-take (omega (arith, h.0))) (digits_take 256 8 n.bytes h.1))
    (digits_back 256 2 (drop 8 n.bytes) (simp length-drop (omega (arith, h.0))) (digits_drop 256 8 n.bytes h.1))
    ∙ take-append-drop 8 n.bytes

curve_back : (space : ℕ) (n : CurveName) → CurveBounded n → curve_from (curve_symbol space n) ≡ n
unfolding curve_symbol
curve_back space n h = λ i. record { bytes = ten_back n h i; len = n.len }

value_back : (space : ℕ) (n : CurveName) (x : ℤ) → ValueBounded n → value_from (value_symbol space n x) ≡ n
unfolding value_symbol
value_back space n x h =
    rw (mod-eq_of_lt h.1, digits_mod n.len (last_below n h.0), digits_div n.len (last_below n h.0))
    (λ i. record { bytes = ten_back n h.0 i; len = n.len })

integer_back : (z : ℤ) → integer_from (integer_word z) ≡ z
unfolding integer_word
integer_back (pos n) = rw (mul-mod_left n 2, mul-div_cancel n {n = 2} (omega arith))
integer_back (negsuc n) = rw (digits_mod n {m = 2} {r = 1} (omega arith), digits_div n {m = 2} {r = 1} (omega arith))

apid_back : (p : Option ℕ) → apid_from (apid_word p) ≡ p
unfolding apid_word
apid_back (Some n) = rw (ne_eqb (n + 1) 0 (λ (e : n + 1 ≡ 0). omega arith)) (ap Some (omega arith))
apid_back None = refl

key_back : (k : Key) → Bounded k → key_from (symbol_of k) ≡ k
unfolding Bounded symbol_of name_symbol curve_symbol value_symbol
key_back (packet ptype stype apid pi1 pi2) h =
    λ i. packet (digits_div ptype h.0 i) (digits_mod ptype h.0 i) (digits_div apid h.1 i) (digits_mod apid h.1 i) pi2
key_back (structure spid) h = refl
key_back (identification ptype stype apid) h = λ i. identification (digits_div ptype h i) (digits_mod ptype h i) (apid_back apid i)
key_back (location name spid) h = λ i. location (name_back 3 name spid h i) spid
key_back (parameter name) h = λ i. parameter (name_back 4 name 0 h i)
key_back (curve numbr) h = λ i. curve (curve_back 5 numbr h i)
key_back (point numbr x) h = λ i. point (value_back 6 numbr x h i) (integer_back x i)
key_back (texts numbr) h = λ i. texts (curve_back 7 numbr h i)
key_back (range numbr from) h = λ i. range (value_back 8 numbr from h i) (integer_back from i)
key_back (limits name) h = λ i. limits (name_back 9 name 0 h i)
key_back (check name position) h = λ i. check (name_back 10 name 0 h i) position

-- Symbols compared

module _ (k l : Key) (h : Bounded k) (j : Bounded l) where
  -- one symbol, one key
  pub symbol_is : symbol_of k ≡ symbol_of l → k ≡ l
  symbol_is e = sym (key_back k h) ∙ ap key_from e ∙ key_back l j

  -- keys are the same just where their symbols are
  pub symbol_exact : same_key k l ≡ same_symbol (symbol_of k) (symbol_of l)
  symbol_exact =
      same_test (same_key k l) (same_symbol (symbol_of k) (symbol_of l))
      (λ e. rw (same_key_is k l e) (same_self (symbol_of l)))
      (λ e. rw (symbol_is (same_is (symbol_of k) (symbol_of l) e)) (same_key_self l))
