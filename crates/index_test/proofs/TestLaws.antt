-- The loop over a list that may be the index: what is left to test.
use mathlib.Core.Path.{◌≡◌, refl, ap, sym, ◌∙◌}
use mathlib.Core.Bool.{Bool, true, false, cond, ◌&&◌, ◌||◌}
use mathlib.Core.List.{List, ◌∷◌, map}
use Prim.Native.Nat.{ℕ, suc, ◌+◌, ◌≤◌, ◌<◌}
use native.Mathlib.Omega.{arith}
use lib.Dec.{eqb}
use lib.ListN.{length, get_or, drop, drop_of_length-le}
use borrow.Author.Tests.{ne_eqb}
use Rattle.laws.specs.Prefix.{count_with}
use Rattle.laws.proofs.Cases.{and_false}
use Rattle.laws.proofs.Lists.{split}
use Rattle.verdicts.specs.Answer.{most_rows}
use Rattle.key_symbols.specs.declared.FiveNumbers.{FiveNumbers}
use Rattle.packet_order.specs.Order.{compared}
use Rattle.packet_index.specs.Index.{Packets, is_packet, numbers_at, is_before, rising_from, rising, every, is_index}
use Rattle.packet_index.proofs.CountLaws.{index_by_count}

module _ (packets : Packets) (index : List ℕ) where
  -- the rows left, after the last at place i
  pub left : (i : ℕ) → FiveNumbers → List ℕ → Bool
  left i last rows =
      every (is_packet packets) rows && cond (eqb i 0) (rising (map (numbers_at packets) rows)) (rising_from last (map (numbers_at packets) rows))

  abbrev pub Rise : Bool
  Rise = every (is_packet packets) index && rising (map (numbers_at packets) index)

  pub record Testing (i : ℕ) (last : FiveNumbers) : Type 0 where
    pub same : left i last (drop i index) ≡ Rise

  pub start : (last : FiveNumbers) → Testing 0 last
  unfolding left
  start last = record { same = refl }

  left_more : (i : ℕ) (last : FiveNumbers) (row : ℕ) (rows : List ℕ)
      → left i last (row ∷ rows) ≡ ((is_packet packets row && every (is_packet packets) rows)
      && ((eqb i 0 || is_before (compared last (numbers_at packets row))) && rising_from (numbers_at packets row) (map (numbers_at packets) rows)))
  unfolding left every rising rising_from
  left_more i last row rows = go (eqb i 0)
    where
      go : (t : Bool)
          → ((is_packet packets row && every (is_packet packets) rows) && cond t (rising_from (numbers_at packets row) (map (numbers_at packets) rows))
          (is_before (compared last (numbers_at packets row)) && rising_from (numbers_at packets row) (map (numbers_at packets) rows)))
          ≡ ((is_packet packets row && every (is_packet packets) rows)
          && ((t || is_before (compared last (numbers_at packets row))) && rising_from (numbers_at packets row) (map (numbers_at packets) rows)))
      go true = refl
      go false = refl

  module _ (i : ℕ) (last : FiveNumbers) (testing : Testing i last) where
    pub ended : length index ≤ i → true ≡ Rise
    unfolding left every rising rising_from
    ended h = none (eqb i 0) ∙ ap (left i last) (sym (drop_of_length-le index h)) ∙ testing.same
      where
        none : (t : Bool) → true ≡ (true && cond t true true)
        none true = refl
        none false = refl

    module _ (h : i < length index) {row : ℕ} (at : row ≡ get_or index i 0) where
      here : left i last (row ∷ drop (i + 1) index) ≡ Rise
      here = ap (λ (r : ℕ). left i last (r ∷ drop (i + 1) index)) at ∙ ap (left i last) (sym (split index i 0 h)) ∙ testing.same

      pub no_packet : {t : Bool} → t ≡ is_packet packets row → t ≡ false → false ≡ Rise
      no_packet e f = sym (left_more i last row (drop (i + 1) index) ∙ rw (sym e ∙ f)) ∙ here

      -- what the comparison with the last told
      follow : {n : FiveNumbers} {t : Bool} → n ≡ numbers_at packets row → t ≡ (eqb i 0 || is_before (compared last n))
          → (eqb i 0 || is_before (compared last (numbers_at packets row))) ≡ t
      follow q e = ap (λ (m : FiveNumbers). eqb i 0 || is_before (compared last m)) (sym q) ∙ sym e

      pub no_rise : {n : FiveNumbers} {t : Bool} → n ≡ numbers_at packets row → t ≡ (eqb i 0 || is_before (compared last n)) → t ≡ false → false ≡ Rise
      no_rise q e f =
          let n = and_false (is_packet packets row && every (is_packet packets) (drop (i + 1) index)) in
          sym (left_more i last row (drop (i + 1) index) ∙ rw (follow q e ∙ f) n) ∙ here

      pub more : {n : FiveNumbers} {t u : Bool} → n ≡ numbers_at packets row → t ≡ is_packet packets row → t ≡ true
          → u ≡ (eqb i 0 || is_before (compared last n)) → u ≡ true → Testing (i + 1) n
      unfolding left
      more q e f g k =
          record {
            same = rw (q, ne_eqb (i + 1) 0 (λ z. omega arith)) (sym (left_more i last row (drop (i + 1) index) ∙ rw (sym e ∙ f, follow q g ∙ k)) ∙ here);
          }

  -- and there are as many as there are packets
  pub all_rise : {t : Bool} → t ≡ Rise → t ≡ true → eqb (length index) (count_with (is_packet packets) (suc most_rows)) ≡ is_index packets index
  all_rise e f = sym (index_by_count packets index ∙ go (every (is_packet packets) index) (rising (map (numbers_at packets) index)) (sym e ∙ f))
    where
      go : (a b : Bool) {c : Bool} → (a && b) ≡ true → (a && (b && c)) ≡ c
      go true b p = rw p
      go false b p = cc

  pub none_rise : {t : Bool} → t ≡ Rise → t ≡ false → false ≡ is_index packets index
  none_rise e f =
      sym (index_by_count packets index ∙ go (every (is_packet packets) index) (rising (map (numbers_at packets) index)) _ (sym e ∙ f))
    where
      go : (a b c : Bool) → (a && b) ≡ false → (a && (b && c)) ≡ false
      go true b c p = rw p
      go false b c p = refl
