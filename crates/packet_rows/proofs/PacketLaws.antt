-- A row by its number: the three tests that it has to pass.
use mathlib.Core.Path.{◌≡◌, refl, ap, sym, ◌∙◌}
use mathlib.Core.Bool.{Bool, true, false, cond, not, ◌&&◌}
use mathlib.Core.List.{List}
use mathlib.Core.Option.{Option, none, some}
use Prim.Native.Nat.{ℕ, ◌-◌}
use lib.Dec.{eqb}
use borrow.Author.Tests.{eq-eqb, ne_eqb}
use Rattle.laws.proofs.Cases.{and_false}
use Rattle.symbols.specs.declared.Symbol.{Symbol}
use Rattle.key_symbols.specs.declared.FiveNumbers.{FiveNumbers}
use Rattle.key_symbols.specs.Keyed.{symbol_of}
use Rattle.key_symbols.specs.Bounded.{key_fits, packet_of}
use Rattle.database.specs.Rows.{Row}
use Rattle.database.specs.Packets.{numbers_in}
use Rattle.database.specs.Arrays.{database, holder_column, row_at, keyed, keyed_by, packet_at, answers}
use Rattle.packet_rows.specs.Packets.{numbers_from, packets_by}

module _ (texts : List (List ℕ)) (words links columns : List ℕ) (number : ℕ) where
  abbrev pub row : Row
  row = row_at texts columns (number - 1)

  -- one more than the place of the row that is given for its numbers
  abbrev pub held : ℕ
  held = keyed_by words links columns holder_column (packet_of (numbers_in row))

  abbrev result : Option FiveNumbers
  result = packets_by (answers (database texts words links columns)) number

  by_tests : (a b c : Bool) → eqb number 0 ≡ a → eqb row.number number ≡ b → eqb held number ≡ c
      → numbers_from (cond (not a && (b && c)) (some row) none) ≡ result
  unfolding packets_by answers packet_at
  by_tests a b c p q r = rw (p, q, r)

  pub no_number : number ≡ 0 → none ≡ result
  no_number z = by_tests true _ _ (eq-eqb number 0 z) refl refl

  pub other_number : (row.number ≡ number → ⊥) → none ≡ result
  other_number z = ap (λ (t : Bool). numbers_from (cond t (some row) none)) (sym (and_false (not (eqb number 0)))) ∙ by_tests _ false _ refl (ne_eqb _ _ z) refl

  pub other_row : (held ≡ number → ⊥) → none ≡ result
  other_row z =
      ap (λ (t : Bool). numbers_from (cond t (some row) none))
      (sym (and_false (not (eqb number 0))) ∙ ap (λ (t : Bool). not (eqb number 0) && t) (sym (and_false (eqb row.number number))))
      ∙ by_tests _ _ false refl refl (ne_eqb _ _ z)

  pub is_packet_lem : {n : FiveNumbers} → (number ≡ 0 → ⊥) → row.number ≡ number → held ≡ number → n ≡ numbers_in row → some n ≡ result
  is_packet_lem z q r e = ap some e ∙ by_tests false true true (ne_eqb _ _ z) (eq-eqb _ _ q) (eq-eqb _ _ r)

  -- the key of its numbers, which no row holds where it doesn't fit
  pub held_unfit : {n : FiveNumbers} → n ≡ numbers_in row → key_fits (packet_of n) ≡ false → held ≡ 0
  unfolding keyed_by
  held_unfit e f = rw (ap (λ (m : FiveNumbers). key_fits (packet_of m)) (sym e) ∙ f)

  pub held_fit : {n : FiveNumbers} {k : Symbol} → n ≡ numbers_in row → key_fits (packet_of n) ≡ true → k ≡ symbol_of (packet_of n)
      → keyed words links columns holder_column k ≡ held
  unfolding keyed_by
  held_fit {n} e f s =
      rw (ap (λ (m : FiveNumbers). key_fits (packet_of m)) (sym e) ∙ f)
      (ap (keyed words links columns holder_column) (s ∙ ap (λ (m : FiveNumbers). symbol_of (packet_of m)) e))
