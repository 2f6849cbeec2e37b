-- A row with numbers and one without, and how many there are.
use Prim.Native.Nat.{ℕ, ◌+◌}
use native.Mathlib.Omega.{arith}
use mathlib.Core.Path.{◌≡◌, refl, ap, sym, ◌∙◌}
use mathlib.Core.Bool.{Bool, true, false, cond, ◌&&◌}
use lib.Dec.{leb, ltb}
use Rattle.laws.specs.Prefix.{count_with, flag}
use Rattle.laws.proofs.Cases.{and_false}
use Rattle.laws.proofs.Count.{count_more}
use Rattle.verdicts.specs.Answer.{most_rows}
use Rattle.key_symbols.specs.declared.FiveNumbers.{FiveNumbers}
use Rattle.std.specs.Prelude as std
use Rattle.std.specs.Prelude.{Result, Some, None, Ok, Err}
use Rattle.packet_rows.specs.Packets.{said_packet}
use Rattle.packet_index.specs.Index.{Packets, zeros, is_packet, numbers_at}
use Rattle.index_entries.specs.Loaded.{entry_of}

module _ (packets : Packets) (row : ℕ) where
  told : {n : FiveNumbers} → n ≡ numbers_at packets row → {t : Bool} → is_packet packets row ≡ t → cond t (Ok n) (Err n) ≡ entry_of packets row
  unfolding entry_of
  told e f = rw (e, f)

  module _ {p : std.Option FiveNumbers} (said : said_packet p ≡ packets row) where
    pub its_numbers : {n : FiveNumbers} → p ≡ Some n → n ≡ numbers_at packets row
    unfolding said_packet numbers_at
    its_numbers e = let f = sym said ∙ ap said_packet e in rw f

    pub no_numbers : p ≡ None → zeros ≡ numbers_at packets row
    unfolding said_packet numbers_at
    no_numbers e = let f = sym said ∙ ap said_packet e in rw f

    -- a row with numbers is a packet when it is a row of the table
    by_row : {n : FiveNumbers} → p ≡ Some n → {t : Bool} → t ≡ (ltb 0 row && leb row most_rows) → is_packet packets row ≡ t
    unfolding said_packet is_packet
    by_row e h = let f = sym said ∙ ap said_packet e in rw (f, h) (go (ltb 0 row) (leb row most_rows))
      where
        go : (a b : Bool) → (a && (b && true)) ≡ (a && b)
        go true true = refl
        go true false = refl
        go false b = refl

    pub row_taken : {n : FiveNumbers} → p ≡ Some n → {t : Bool} → t ≡ (ltb 0 row && leb row most_rows) → t ≡ true
        → Ok n ≡ entry_of packets row
    row_taken e h i = told (its_numbers e) (by_row e h ∙ i)

    pub row_left : {n : FiveNumbers} → p ≡ Some n → {t : Bool} → t ≡ (ltb 0 row && leb row most_rows) → t ≡ false
        → Err n ≡ entry_of packets row
    row_left e h i = told (its_numbers e) (by_row e h ∙ i)

    no_packet : p ≡ None → is_packet packets row ≡ false
    unfolding said_packet is_packet
    no_packet e = let f = sym said ∙ ap said_packet e in
        rw f (ap (λ (t : Bool). ltb 0 row && t) (and_false (leb row most_rows)) ∙ and_false (ltb 0 row))

    pub no_row : p ≡ None → Err zeros ≡ entry_of packets row
    no_row e = told (no_numbers e) (no_packet e)

  module _ {o : Result FiveNumbers FiveNumbers} (entry : o ≡ entry_of packets row) where
    by_packet : (t : Bool) → is_packet packets row ≡ t → cond t (Ok (numbers_at packets row)) (Err (numbers_at packets row)) ≡ o
    unfolding entry_of
    by_packet t e = rw (← e) (sym entry)

    pub is_entry : {n : FiveNumbers} → o ≡ Ok n → (is_packet packets row ≡ true) × (n ≡ numbers_at packets row)
    is_entry {n} e = go (is_packet packets row) refl
      where
        go : (t : Bool) → is_packet packets row ≡ t → (is_packet packets row ≡ true) × (n ≡ numbers_at packets row)
        go true p = let q = by_packet true p ∙ e in (p, cc)
        go false p = let q = by_packet false p ∙ e in let z : ◌≡◌ {A = ℕ} 0 1 = cc in absurd (omega arith)

    pub no_entry_lem : {n : FiveNumbers} → o ≡ Err n → (is_packet packets row ≡ false) × (n ≡ numbers_at packets row)
    no_entry_lem {n} e = go (is_packet packets row) refl
      where
        go : (t : Bool) → is_packet packets row ≡ t → (is_packet packets row ≡ false) × (n ≡ numbers_at packets row)
        go true p = let q = by_packet true p ∙ e in let z : ◌≡◌ {A = ℕ} 0 1 = cc in absurd (omega arith)
        go false p = let q = by_packet false p ∙ e in (p, cc)

-- row 0 is no packet
pub count_start : (packets : Packets) → 0 ≡ count_with (is_packet packets) 1
unfolding count_with is_packet
count_start packets = refl

-- one row more, by what was told of it
module _ (f : ℕ → Bool) {count row : ℕ} (is : count ≡ count_with f row) {t : Bool} (told : t ≡ f row) where
  more : count_with f (row + 1) ≡ count_with f row + flag t
  more = count_more f row ∙ ap (λ (u : Bool). count_with f row + flag u) (sym told)

  pub count_one : {next : ℕ} → t ≡ true → next ≡ count + 1 → next ≡ count_with f (row + 1)
  count_one e n = let m : count_with f (row + 1) ≡ count_with f row + 1 = more ∙ ap (λ (u : Bool). count_with f row + flag u) e in omega arith

  pub count_other : {next : ℕ} → t ≡ false → next ≡ count → next ≡ count_with f (row + 1)
  count_other e n = let m : count_with f (row + 1) ≡ count_with f row + 0 = more ∙ ap (λ (u : Bool). count_with f row + flag u) e in omega arith
