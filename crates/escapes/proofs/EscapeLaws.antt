-- Laws of texts with escapes and of hexadecimal digits, as a walk meets them.
use mathlib.Core.Path.{◌≡◌, refl, sym, ap, ◌∙◌}
use mathlib.Core.Bool.{true, false}
use mathlib.Core.List.{List, [], ◌∷◌, ◌++◌, append_assoc, append-nil}
use mathlib.Core.Option.{Option, some, none}
use Prim.Native.Nat.{ℕ, suc, ◌+◌, ◌-◌, ◌<◌, ◌≤◌}
use native.Mathlib.Omega.{arith}
use native.Mathlib.Nat.{add-zero, sub-zero}
use native.Mathlib.Numerals.{add-one}
use lib.Dec.{ltb}
use lib.ListN.{length, get_or, take, drop, set, drop_of_length-le, length-drop, length-append, length-take}
use lib.Seq.{take-suc-set, get_or-drop, drop-drop}
use borrow.Author.Tests.{eq-eqb, ne_eqb, lt-ltb, le-ltb, ltb-true, ltb-false}
use Rattle.laws.proofs.Lists.{split}
use Rattle.laws.proofs.Cases.{bool_cases, false≢true}
use Rattle.lines.specs.Columns.{part_of}
use Rattle.escapes.specs.Escapes.{byte_at, before, before_byte, plain, unescaped, hex_bytes, where_room, is_open, ended_row, row_bytes}

-- bytes that are read, and what is still to be read
unfoldable pub joined : List ℕ → Option (List ℕ) → Option (List ℕ)
joined w none = none
joined w (some bs) = some (w ++ bs)

pub joined_first : (o : Option (List ℕ)) → joined [] o ≡ o
unfolding joined
joined_first none = refl
joined_first (some bs) = refl

-- one byte more is written
pub joined_more : (out : List ℕ) (n b : ℕ) (o : Option (List ℕ)) → n < length out
    → joined (take n out) (before b o) ≡ joined (take (n + 1) (set out n b)) o
unfolding joined before
joined_more out n b none h = refl
joined_more out n b (some bs) h = rw (add-one, take-suc-set out n b h) (ap some (sym (append_assoc (take n out) (b ∷ []) bs)))

-- nothing is left to be read
pub joined_end : (w : List ℕ) {o : Option (List ℕ)} → o ≡ some [] → joined w o ≡ some w
unfolding joined
joined_end w e = rw (e, append-nil w)

pub joined_none : (w : List ℕ) {o : Option (List ℕ)} → o ≡ none → joined w o ≡ none
unfolding joined
joined_none w e = rw e

pub byte_in_lem : (b : ℕ) (o : Option (List ℕ)) → b ≤ 255 → before_byte b o ≡ before b o
unfolding before_byte
byte_in_lem b o h = rw (le-ltb 255 b h)

pub byte_none : (b : ℕ) (o : Option (List ℕ)) → 255 < b → before_byte b o ≡ none
unfolding before_byte
byte_none b o h = rw (lt-ltb 255 b h)

-- a byte that is read stands in the line
pub byte_inside : (raw : List ℕ) (k : ℕ) → byte_at raw k ≤ 255 → k + 1 < length raw
unfolding byte_at
byte_inside raw k h =
    bool_cases (ltb (k + 1) (length raw)) (λ t. ltb-true _ _ t) (λ t. let g : 256 ≤ 255 = rw t at h in absurd (omega arith))

-- the byte at a place is that at the start of what is left
byte_drop : (raw : List ℕ) (k : ℕ) → byte_at (drop k raw) 0 ≡ byte_at raw k
unfolding byte_at
byte_drop raw k =
    bool_cases (ltb (k + 1) (length raw))
    (λ t. let h : k + 1 < length raw = ltb-true _ _ t in
    let l : length (drop k raw) ≡ length raw - k = length-drop k raw in
    rw (t, lt-ltb (0 + 1) (length (drop k raw)) (omega arith), get_or-drop k raw 0 0, get_or-drop k raw (0 + 1) 0, add-zero k))
    (λ t. let h : length raw ≤ k + 1 = ltb-false _ _ t in
    let l : length (drop k raw) ≡ length raw - k = length-drop k raw in
    rw (t, le-ltb (0 + 1) (length (drop k raw)) (omega arith)))

-- a `\` and what follows it
slash : (c : ℕ) (rest : List ℕ) → c ≡ 92 → unescaped (c ∷ rest) ≡ before_byte (byte_at rest 0) (unescaped (drop 2 rest))
unfolding unescaped byte_at before_byte
slash c [] e = rw (eq-eqb c 92 e)
slash c (d ∷ []) e = rw (eq-eqb c 92 e)
slash c (d ∷ f ∷ cs) e = rw (eq-eqb c 92 e, lt-ltb (0 + 1) (suc (suc (length cs))) (omega arith))

other : (c : ℕ) (rest : List ℕ) → (c ≡ 92 → ⊥) → unescaped (c ∷ rest) ≡ before (plain c) (unescaped rest)
unfolding unescaped
other c [] n = rw (ne_eqb c 92 n)
other c (d ∷ []) n = rw (ne_eqb c 92 n)
other c (d ∷ e ∷ cs) n = rw (ne_eqb c 92 n)

blank : (c : ℕ) (rest : List ℕ) → c ≡ 32 → hex_bytes (c ∷ rest) ≡ hex_bytes rest
unfolding hex_bytes
blank c [] e = rw (eq-eqb c 32 e)
blank c (d ∷ cs) e = rw (eq-eqb c 32 e)

pair : (c : ℕ) (rest : List ℕ) → (c ≡ 32 → ⊥) → hex_bytes (c ∷ rest) ≡ before_byte (byte_at (c ∷ rest) 0) (hex_bytes (drop 2 (c ∷ rest)))
unfolding hex_bytes byte_at before_byte
pair c [] n = rw (ne_eqb c 32 n)
pair c (d ∷ cs) n = rw (ne_eqb c 32 n, lt-ltb (0 + 1) (suc (suc (length cs))) (omega arith))

module _ (raw : List ℕ) (i : ℕ) (h : i < length raw) where
  pub escape_here : get_or raw i 0 ≡ 92 → unescaped (drop i raw) ≡ before_byte (byte_at raw (i + 1)) (unescaped (drop (i + 1 + 2) raw))
  escape_here e =
      rw (split raw i 0 h, ← byte_drop raw (i + 1), ← drop-drop 2 (i + 1) raw) (slash (get_or raw i 0) (drop (i + 1) raw) e)

  pub plain_here : (get_or raw i 0 ≡ 92 → ⊥) → unescaped (drop i raw) ≡ before (plain (get_or raw i 0)) (unescaped (drop (i + 1) raw))
  plain_here n = rw (split raw i 0 h) (other (get_or raw i 0) (drop (i + 1) raw) n)

  pub blank_here : get_or raw i 0 ≡ 32 → hex_bytes (drop i raw) ≡ hex_bytes (drop (i + 1) raw)
  blank_here e = rw (split raw i 0 h) (blank (get_or raw i 0) (drop (i + 1) raw) e)

  pub pair_here : (get_or raw i 0 ≡ 32 → ⊥) → hex_bytes (drop i raw) ≡ before_byte (byte_at raw i) (hex_bytes (drop (i + 2) raw))
  pair_here n =
      rw (← byte_drop raw i, ← drop-drop 2 i raw, split raw i 0 h) (pair (get_or raw i 0) (drop (i + 1) raw) n)

pub unescaped_end : (raw : List ℕ) (i : ℕ) → length raw ≤ i → unescaped (drop i raw) ≡ some []
unfolding unescaped
unescaped_end raw i h = rw (drop_of_length-le raw h)

pub hex_end : (raw : List ℕ) (i : ℕ) → length raw ≤ i → hex_bytes (drop i raw) ≡ some []
unfolding hex_bytes
hex_end raw i h = rw (drop_of_length-le raw h)

pub fits : (room : ℕ) (raw : List ℕ) (o : Option (List ℕ)) → length raw ≤ room → where_room room raw o ≡ o
unfolding where_room
fits room raw o h = rw (le-ltb room (length raw) h)

pub fits_not : (room : ℕ) (raw : List ℕ) (o : Option (List ℕ)) → room < length raw → where_room room raw o ≡ none
unfolding where_room
fits_not room raw o h = rw (lt-ltb room (length raw) h)

-- Rows

-- a row needs a byte more than its line
pub row_fits : (room : ℕ) (raw : List ℕ) (o : Option (List ℕ)) → length raw < room → where_room room (raw ++ 10 ∷ []) o ≡ o
row_fits room raw o h = fits room (raw ++ 10 ∷ []) o (omega (arith, length-append raw (10 ∷ [])))

pub row_fits_not : (room : ℕ) (raw : List ℕ) (o : Option (List ℕ)) → room ≤ length raw → where_room room (raw ++ 10 ∷ []) o ≡ none
row_fits_not room raw o h = fits_not room (raw ++ 10 ∷ []) o (omega (arith, length-append raw (10 ∷ [])))

pub row_open : (raw : List ℕ) → is_open raw ≡ true → row_bytes raw ≡ unescaped (take (length raw - 1) raw)
unfolding row_bytes
row_open raw e = rw e

pub row_ended : (raw : List ℕ) → is_open raw ≡ false → row_bytes raw ≡ ended_row (unescaped raw)
unfolding row_bytes
row_ended raw e = rw e

pub open_none : (raw : List ℕ) → length raw ≡ 0 → is_open raw ≡ false
unfolding is_open
open_none [] h = refl
open_none (b ∷ bs) h = absurd (omega arith)

pub open-some : (raw : List ℕ) → is_open raw ≡ true → 1 ≤ length raw
unfolding is_open
open-some [] e = absurd (false≢true e)
open-some (b ∷ bs) e = omega arith

pub open-read : (room : ℕ) (raw : List ℕ) → length raw < room → is_open raw ≡ true
    → where_room room (part_of raw 0 (length raw - 1)) (unescaped (part_of raw 0 (length raw - 1))) ≡ where_room room (raw ++ 10 ∷ []) (row_bytes raw)
open-read room raw h e =
    let l : length (take (length raw - 1) raw) ≤ room = omega (arith, length-take (length raw - 1) raw) in
    rw (sub-zero (length raw - 1)) (fits room (take (length raw - 1) raw) _ l ∙ sym (row_fits room raw _ h ∙ row_open raw e))

pub ended_read : (room : ℕ) (raw : List ℕ) {o : Option (List ℕ)} → length raw < room → is_open raw ≡ false
    → o ≡ where_room room raw (unescaped raw) → ended_row o ≡ where_room room (raw ++ 10 ∷ []) (row_bytes raw)
ended_read room raw h e p = ap ended_row (p ∙ fits room raw _ (omega arith)) ∙ sym (row_fits room raw _ h ∙ row_ended raw e)

-- the first n bytes of a buffer, as a part of it
pub read_part : (n : ℕ) (out : List ℕ) {o : Option (List ℕ)} → some (take n out) ≡ o → o ≡ some (part_of out 0 n)
read_part n out e = rw (sub-zero n) (sym e)
