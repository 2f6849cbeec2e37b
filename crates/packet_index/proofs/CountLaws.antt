-- The index by counting: packets that rise are different, so as many of them as there are packets are all.
use mathlib.Core.Path.{◌≡◌, refl, ap, sym, ◌∙◌}
use mathlib.Core.Bool.{Bool, true, false, not, cond, ◌&&◌, ◌||◌}
use mathlib.Core.List.{List, [], ◌∷◌, map, Memᴰ}
use Prim.Native.Nat.{ℕ, zero, suc, ◌+◌, ◌<◌}
use native.Mathlib.Omega.{arith}
use native.Mathlib.Decide.{ℕ_discrete}
use lib.Dec.{eqb, ltb}
use lib.ListN.{length}
use borrow.Author.Tests.{eqb-true, eq-eqb, ne_eqb, lt-ltb}
use Rattle.laws.specs.Lists.{any}
use Rattle.laws.specs.Prefix.{any_with, count_with}
use Rattle.laws.proofs.Count.{count_same, count_or, any_count}
use Rattle.laws.proofs.Tests.{any_witness}
use Rattle.verdicts.specs.Answer.{most_rows}
use Rattle.key_symbols.specs.declared.FiveNumbers.{FiveNumbers}
use Rattle.packet_index.specs.Index.{Packets, is_packet, numbers_at, rising, every, missing, is_index}
use Rattle.packet_index.proofs.IndexLaws.{every_member, packet_to, not_again, tail_rises}

count_none : (n : ℕ) (f : ℕ → Bool) → ((i : ℕ) → i < n → f i ≡ false) → count_with f n ≡ 0
unfolding count_with
count_none zero f h = refl
count_none (suc n) f h = rw (h n (omega arith)) (count_none n f (λ i p. h i (omega arith)))

-- one number is equal to a
count_one : (n a : ℕ) → a < n → count_with (λ i. eqb i a) n ≡ 1
unfolding count_with
count_one zero a h = absurd (omega arith)
count_one (suc n) a h = go (ℕ_discrete n a) (λ q. count_one n a q)
  where
    go : Dec (n ≡ a) → (a < n → count_with (λ i. eqb i a) n ≡ 1) → cond (eqb n a) (suc (count_with (λ i. eqb i a) n)) (count_with (λ i. eqb i a) n) ≡ 1
    go (yes e) r = rw (eq-eqb n a e, count_none n (λ i. eqb i a) (λ i p. ne_eqb i a (λ q. omega arith)))
    go (no z) r = rw (ne_eqb n a z) (r (omega (arith, z)))

-- of rows that rise, each counts once
in_count : (key : ℕ → FiveNumbers) (n : ℕ) (rows : List ℕ) → rising (map key rows) ≡ true → ((row : ℕ) → Memᴰ row rows → row < n)
    → count_with (λ i. any (eqb i) rows) n ≡ length rows
unfolding rising
in_count key n [] t h = count_none n (λ i. false) (λ i p. refl)
in_count key n (row ∷ rows) t h =
    count_or (λ i. eqb i row) (λ i. any (eqb i) rows) n (λ i p. apart i (eqb i row) refl (any (eqb i) rows) refl)
    ∙ ends (count_one n row (h row (Memᴰ.head refl))) (in_count key n rows (tail_rises (key row) (map key rows) t) (λ r m. h r (Memᴰ.tail m)))
  where
    apart : (i : ℕ) (s : Bool) → eqb i row ≡ s → (u : Bool) → any (eqb i) rows ≡ u → (s && u) ≡ false
    apart i false p u q = refl
    apart i true p false q = refl
    apart i true p true q =
        let w = any_witness (eqb i) rows q in
        absurd (not_again key w.1 t (omega (arith, eqb-true i row p, eqb-true i w.0 w.2)))

    ends : {a b : ℕ} → a ≡ 1 → b ≡ length rows → a + b ≡ suc (length rows)
    ends p q = omega arith

-- those that pass are those in a list of such, and those that it lacks
count_split : (f : ℕ → Bool) (n : ℕ) (rows : List ℕ) → every f rows ≡ true
    → count_with f n ≡ count_with (λ i. any (eqb i) rows) n + count_with (λ i. f i && not (any (eqb i) rows)) n
count_split f n rows t =
    count_same f (λ i. any (eqb i) rows || f i && not (any (eqb i) rows)) n (λ i p. parts i (any (eqb i) rows) refl (f i) refl)
    ∙ count_or (λ i. any (eqb i) rows) (λ i. f i && not (any (eqb i) rows)) n (λ i p. apart (any (eqb i) rows) (f i))
  where
    parts : (i : ℕ) (s : Bool) → any (eqb i) rows ≡ s → (u : Bool) → f i ≡ u → u ≡ (s || u && not s)
    parts i true p u q =
        let w = any_witness (eqb i) rows p in
        sym q ∙ ap f (eqb-true i w.0 w.2) ∙ every_member f w.1 t
    parts i false p true q = refl
    parts i false p false q = refl

    apart : (s u : Bool) → (s && (u && not s)) ≡ false
    apart true true = refl
    apart true false = refl
    apart false u = refl

-- nothing more is counted exactly where there is nothing more
none_more : (a m : ℕ) → not (ltb 0 m) ≡ eqb a (a + m)
none_more a zero = sym (eq-eqb a (a + 0) (omega arith))
none_more a (suc m) = rw (lt-ltb 0 (suc m) (omega arith)) (sym (ne_eqb a (a + suc m) (λ e. omega arith)))

and_same : (a b : Bool) {c d : Bool} → (a ≡ true → b ≡ true → c ≡ d) → (a && (b && c)) ≡ (a && (b && d))
and_same true true h = h refl refl
and_same true false h = refl
and_same false b h = refl

-- the test that counts: as many entries as there are packets, in place of a look for each
pub index_by_count : (packets : Packets) (index : List ℕ) → is_index packets index ≡ (every (is_packet packets) index
    && (rising (map (numbers_at packets) index) && eqb (length index) (count_with (is_packet packets) (suc most_rows))))
unfolding is_index missing
index_by_count packets index =
    and_same (every (is_packet packets) index) (rising (map (numbers_at packets) index)) (λ a r. go a r)
  where
    go : every (is_packet packets) index ≡ true → rising (map (numbers_at packets) index) ≡ true
        → not (any_with (missing packets index) (suc most_rows)) ≡ eqb (length index) (count_with (is_packet packets) (suc most_rows))
    go a r =
        let most : ℕ = suc most_rows in
        let lacks : ℕ = count_with (λ i. is_packet packets i && not (any (eqb i) index)) most in
        let c : count_with (λ i. any (eqb i) index) most ≡ length index =
        in_count (numbers_at packets) most index r (λ row m. omega (arith, packet_to packets row (every_member (is_packet packets) m a))) in
        ap not (any_count (λ i. is_packet packets i && not (any (eqb i) index)) most)
        ∙ none_more (length index) lacks
        ∙ ap (eqb (length index)) (sym (count_split (is_packet packets) most index a ∙ ap (λ (n : ℕ). n + lacks) c))
