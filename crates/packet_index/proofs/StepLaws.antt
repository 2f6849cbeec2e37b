-- The steps of a search: how many there are, and what they tell, by induction over the steps.
use mathlib.Core.Path.{◌≡◌, refl, ap, sym, ◌∙◌}
use mathlib.Core.Bool.{true, false}
use mathlib.Core.List.{List, [], ◌∷◌}
use Prim.Native.Nat.{ℕ, zero, suc, ◌+◌, ◌-◌, ◌^◌, ◌≤◌, ◌<◌}
use native.Mathlib.Nat.{two-pow-succ}
use native.Mathlib.Omega.{arith}
use native.Mathlib.Decide.{dec_lt, ℕ_discrete}
use lib.ListN.{length, take, drop, length-take, length-drop}
use lib.Seq.{get_or-take, get_or-drop}
use Rattle.laws.proofs.Cases.{false≢true}
use Rattle.key_symbols.specs.declared.FiveNumbers.{FiveNumbers}
use Rattle.packet_order.specs.declared.Order.{Order}
use Rattle.packet_order.specs.declared.Order.TheVariants.{Before, Same, After}
use Rattle.packet_order.specs.Order.{compared}
use Rattle.packet_order.proofs.OrderLaws.{before_after, after_before, same_equal, before_transitive}
use Rattle.packet_index.specs.declared.Searched.{Searched}
use Rattle.packet_index.specs.Index.{zeros}
use Rattle.packet_index.specs.Search.{nowhere, found_at, one_more, go_on, middle, search_from}
use Rattle.packet_index.proofs.RisingLaws.{at, Rises, rises_take, rises_drop}

-- one step, where entries are left
pub search_step : (steps : ℕ) (target : FiveNumbers) (before : ℕ) (xs : List FiveNumbers) → 0 < length xs
    → search_from (suc steps) target before xs ≡ go_on (compared target (at xs (middle xs))) (found_at (before + middle xs))
    (search_from steps target before (take (middle xs) xs)) (search_from steps target (before + middle xs + 1) (drop (middle xs + 1) xs))
unfolding search_from
search_step steps target before [] h = absurd (omega arith)
search_step steps target before (x ∷ xs) h = refl

pub search_none : (steps : ℕ) (target : FiveNumbers) (before : ℕ) (xs : List FiveNumbers) → length xs ≡ 0 → search_from steps target before xs ≡ nowhere before
unfolding search_from
search_none zero target before xs e = refl
search_none (suc steps) target before [] e = refl
search_none (suc steps) target before (x ∷ xs) e = absurd (omega arith)

-- as many steps as entries are enough, and more change nothing
steps_enough : (s r : ℕ) (target : FiveNumbers) (before : ℕ) (xs : List FiveNumbers) → length xs ≤ s → length xs ≤ r
    → search_from s target before xs ≡ search_from r target before xs
unfolding search_from
steps_enough zero r target before xs h k = sym (search_none r target before xs (omega arith))
steps_enough (suc s) zero target before xs h k = search_none (suc s) target before xs (omega arith)
steps_enough (suc s) (suc r) target before [] h k = refl
steps_enough (suc s) (suc r) target before (x ∷ xs) h k =
    let l : List FiveNumbers = x ∷ xs in
    let half : ℕ = middle l in
    let t = length-take half l in
    let d = length-drop (half + 1) l in
    let p = steps_enough s r target before (take half l) (omega arith) (omega arith) in
    let q = steps_enough s r target (before + half + 1) (drop (half + 1) l) (omega arith) (omega arith) in
    λ i. go_on (compared target (at l half)) (found_at (before + half)) (p i) (q i)

-- so a search of entries that have so many before them is 02's sentence, with no number of steps in it
abbrev pub search : FiveNumbers → (before : ℕ) → List FiveNumbers → Searched
search target before xs = search_from (length xs) target before xs

pub search_ends : (target : FiveNumbers) (before : ℕ) → search target before [] ≡ nowhere before
search_ends target before = search_none 0 target before [] refl

pub search_sentence : (target : FiveNumbers) (before : ℕ) (xs : List FiveNumbers) → 0 < length xs
    → search target before xs ≡ go_on (compared target (at xs (middle xs))) (found_at (before + middle xs))
    (search target before (take (middle xs) xs)) (search target (before + middle xs + 1) (drop (middle xs + 1) xs))
search_sentence target before xs h =
    let half : ℕ = middle xs in
    let s : ℕ = length xs - 1 in
    let e : length xs ≡ suc s = omega arith in
    let t = length-take half xs in
    let d = length-drop (half + 1) xs in
    let p = steps_enough s (length (take half xs)) target before (take half xs) (omega arith) (omega arith) in
    let q = steps_enough s (length (drop (half + 1) xs)) target (before + half + 1) (drop (half + 1) xs) (omega arith) (omega arith) in
    ap (λ (n : ℕ). search_from n target before xs) e ∙ search_step s target before xs h
    ∙ λ i. go_on (compared target (at xs half)) (found_at (before + half)) (p i) (q i)

-- what holds on each way that a search goes on holds of the search
on_each : (P : Searched → Type 0) (o : Order) {there earlier later : Searched} → (o ≡ Before → P (one_more earlier)) → (o ≡ Same → P there)
    → (o ≡ After → P (one_more later)) → P (go_on o there earlier later)
on_each P Before f g h = f refl
on_each P Same f g h = g refl
on_each P After f g h = h refl

-- of fewer than 2 ^ k entries at most k are compared
pub steps_few : (k steps : ℕ) (target : FiveNumbers) (before : ℕ) (xs : List FiveNumbers) → length xs < 2 ^ k → (search_from steps target before xs).compared ≤ k
unfolding search_from
steps_few k zero target before xs h = omega arith
steps_few k (suc steps) target before [] h = omega arith
steps_few zero (suc steps) target before (x ∷ xs) h = absurd (omega arith)
steps_few (suc k) (suc steps) target before (x ∷ xs) h =
    let l : List FiveNumbers = x ∷ xs in
    let e = two-pow-succ k in
    let p = steps_few k steps target before (take (middle l) l) (omega (arith, length-take (middle l) l)) in
    let q = steps_few k steps target (before + middle l + 1) (drop (middle l + 1) l) (omega (arith, length-drop (middle l + 1) l)) in
    on_each (λ (s : Searched). s.compared ≤ suc k) (compared target (at l (middle l))) (λ _. omega arith) (λ _. omega arith) (λ _. omega arith)

-- what a search tells of any list: a place from the first to past the last of those left, and where it found the
-- target it stands there
pub record Told (target : FiveNumbers) (before : ℕ) (xs : List FiveNumbers) (s : Searched) : Type 0 where
  pub from : before ≤ s.place
  pub to : s.place ≤ before + length xs
  pub hit : s.found ≡ true → (i : ℕ) → s.place ≡ before + i → (i < length xs) × (at xs i ≡ target)

none_told : (target : FiveNumbers) (before : ℕ) (xs : List FiveNumbers) → Told target before xs (nowhere before)
none_told target before xs = record { from = omega arith; to = omega arith; hit = λ e. absurd (false≢true e) }

module _ (target : FiveNumbers) (before half : ℕ) (xs : List FiveNumbers) (below : half < length xs) where
  earlier_told : (s : Searched) → Told target before (take half xs) s → Told target before xs (one_more s)
  earlier_told s w =
      let n = length-take half xs in
      record {
        from = w.from;
        to = omega (arith, w.to);
        hit = λ e i p.
            let h = w.hit e i p in
            (omega (arith, h.0), sym (get_or-take half xs i zeros (omega (arith, h.0))) ∙ h.1);
      }

  here_told : target ≡ at xs half → Told target before xs (found_at (before + half))
  here_told q =
      record {
        from = omega arith;
        to = omega arith;
        hit = λ e i p.
            let k : i ≡ half = omega arith in
            (omega arith, ap (at xs) k ∙ sym q);
      }

  later_told : (s : Searched) → Told target (before + half + 1) (drop (half + 1) xs) s → Told target before xs (one_more s)
  later_told s w =
      let n = length-drop (half + 1) xs in
      record {
        from = omega (arith, w.from);
        to = omega (arith, w.to);
        hit = λ e i p.
            let j : ℕ = i - (half + 1) in
            let k : half + 1 + j ≡ i = omega (arith, w.from) in
            let h = w.hit e j (omega (arith, w.from)) in
            (omega (arith, h.0), ap (at xs) (sym k) ∙ sym (get_or-drop (half + 1) xs j zeros) ∙ h.1);
      }

pub told : (steps : ℕ) (target : FiveNumbers) (before : ℕ) (xs : List FiveNumbers) → Told target before xs (search_from steps target before xs)
unfolding search_from
told zero target before xs = none_told target before xs
told (suc steps) target before [] = none_told target before []
told (suc steps) target before (x ∷ xs) =
    let l : List FiveNumbers = x ∷ xs in
    let half : ℕ = middle l in
    let p = told steps target before (take half l) in
    let q = told steps target (before + half + 1) (drop (half + 1) l) in
    on_each (Told target before l) (compared target (at l half)) (λ _. earlier_told target before half l (omega arith) _ p)
    (λ e. here_told target before half l (omega arith) (same_equal target (at l half) e))
    (λ _. later_told target before half l (omega arith) _ q)

-- where it found nothing in a list that rises, those before the place come before the target, and the others after it
pub record Placed (target : FiveNumbers) (before : ℕ) (xs : List FiveNumbers) (s : Searched) : Type 0 where
  pub less : s.found ≡ false → (i : ℕ) → before + i < s.place → compared (at xs i) target ≡ Before
  pub more : s.found ≡ false → (i : ℕ) → s.place ≤ before + i → i < length xs → compared (at xs i) target ≡ After

none_placed : (target : FiveNumbers) (before : ℕ) (xs : List FiveNumbers) → length xs ≡ 0 → Placed target before xs (nowhere before)
none_placed target before xs e = record { less = λ _ i p. absurd (omega arith); more = λ _ i p h. absurd (omega arith) }

module _ (target : FiveNumbers) (before half : ℕ) (xs : List FiveNumbers) (below : half < length xs) (rises : Rises xs) where
  -- no entry from the middle on comes before an entry that the target comes before
  from_middle : compared target (at xs half) ≡ Before → (i : ℕ) → half ≤ i → i < length xs → compared (at xs i) target ≡ After
  from_middle b i p h = go (ℕ_discrete half i)
    where
      go : Dec (half ≡ i) → compared (at xs i) target ≡ After
      go (yes e) = rw (← e) (before_after target (at xs half) b)
      go (no n) = before_after target (at xs i) (before_transitive target (at xs half) (at xs i) b (rises half i (omega (arith, n)) h))

  to_middle : compared target (at xs half) ≡ After → (i : ℕ) → i ≤ half → compared (at xs i) target ≡ Before
  to_middle a i p = go (ℕ_discrete half i)
    where
      go : Dec (half ≡ i) → compared (at xs i) target ≡ Before
      go (yes e) = rw (← e) (after_before target (at xs half) a)
      go (no n) = before_transitive (at xs i) (at xs half) target (rises i half (omega (arith, n)) below) (after_before target (at xs half) a)

  earlier_placed : compared target (at xs half) ≡ Before → (s : Searched) → Told target before (take half xs) s → Placed target before (take half xs) s
      → Placed target before xs (one_more s)
  earlier_placed b s w v =
      let n = length-take half xs in
      record {
        less = λ e i p. rw (← get_or-take half xs i zeros (omega (arith, w.to))) (v.less e i p);
        more = λ e i p h. after e i p h (dec_lt i half);
      }
    where
      after : s.found ≡ false → (i : ℕ) → s.place ≤ before + i → i < length xs → Dec (i < half) → compared (at xs i) target ≡ After
      after e i p h (yes q) = rw (← get_or-take half xs i zeros q) (v.more e i p (omega (arith, length-take half xs)))
      after e i p h (no q) = from_middle b i (omega arith) h

  later_placed : compared target (at xs half) ≡ After → (s : Searched) → Told target (before + half + 1) (drop (half + 1) xs) s
      → Placed target (before + half + 1) (drop (half + 1) xs) s → Placed target before xs (one_more s)
  later_placed a s w v =
      record {
        less = λ e i p. earlier e i p (dec_lt half i);
        more = λ e i p h.
            rw (← shifted i (omega (arith, w.from))) (v.more e (i - (half + 1)) (omega (arith, w.from)) (omega (arith, w.from, length-drop (half + 1) xs)));
      }
    where
      shifted : (i : ℕ) → half < i → at (drop (half + 1) xs) (i - (half + 1)) ≡ at xs i
      shifted i p =
          let k : half + 1 + (i - (half + 1)) ≡ i = omega arith in
          get_or-drop (half + 1) xs (i - (half + 1)) zeros ∙ ap (at xs) k

      earlier : s.found ≡ false → (i : ℕ) → before + i < s.place → Dec (half < i) → compared (at xs i) target ≡ Before
      earlier e i p (yes q) = rw (← shifted i q) (v.less e (i - (half + 1)) (omega arith))
      earlier e i p (no q) = to_middle a i (omega arith)

pub placed : (steps : ℕ) (target : FiveNumbers) (before : ℕ) (xs : List FiveNumbers) → length xs ≤ steps → Rises xs
    → Placed target before xs (search_from steps target before xs)
unfolding search_from
placed zero target before xs h r = none_placed target before xs (omega arith)
placed (suc steps) target before [] h r = none_placed target before [] refl
placed (suc steps) target before (x ∷ xs) h r =
    let l : List FiveNumbers = x ∷ xs in
    let half : ℕ = middle l in
    let p = placed steps target before (take half l) (omega (arith, length-take half l)) (rises_take half l r) in
    let q = placed steps target (before + half + 1) (drop (half + 1) l) (omega (arith, length-drop (half + 1) l)) (rises_drop (half + 1) l r) in
    on_each (Placed target before l) (compared target (at l half))
    (λ b. earlier_placed target before half l (omega arith) r b _ (told steps target before (take half l)) p)
    (λ _. record { less = λ e. absurd (false≢true (sym e)); more = λ e. absurd (false≢true (sym e)) })
    (λ a. later_placed target before half l (omega arith) r a _ (told steps target (before + half + 1) (drop (half + 1) l)) q)
