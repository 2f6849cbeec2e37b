-- The loop of a search: what is left to search, and how many entries were compared.
use mathlib.Core.Path.{◌≡◌, refl, ap, ap₂, sym, ◌∙◌}
use mathlib.Core.Bool.{true, false}
use mathlib.Core.List.{List, [], ◌∷◌, map}
use Prim.Native.Nat.{ℕ, zero, suc, ◌+◌, ◌-◌, ◌/◌, ◌≤◌, ◌<◌}
use native.Mathlib.Nat.{sub-zero}
use native.Mathlib.Omega.{arith}
use lib.ListN.{length, get_or, take, drop, length-take, length-drop}
use lib.Seq.{get_or-take, get_or-drop, take-take, drop-drop, take_all}
use Rattle.laws.proofs.Lists.{map_at}
use Rattle.key_symbols.specs.declared.FiveNumbers.{FiveNumbers}
use Rattle.packet_order.specs.declared.Order.{Order}
use Rattle.packet_order.specs.declared.Order.TheVariants.{Before, Same, After}
use Rattle.packet_order.specs.Order.{compared}
use Rattle.packet_index.specs.declared.Searched.{Searched}
use Rattle.packet_index.specs.Index.{zeros}
use Rattle.packet_index.specs.Search.{nowhere, found_at, one_more, go_on, middle, search_from, searched}
use Rattle.packet_index.proofs.RisingLaws.{at}
use Rattle.packet_index.proofs.StepLaws.{search_step, search_none}

-- what a search tells after so many more comparisons
abbrev after : ℕ → Searched → Searched
after n s = record { found = s.found; place = s.place; compared = n + s.compared }

pub drop_take : {A : Type 0} (m n : ℕ) (l : List A) → drop m (take n l) ≡ take (n - m) (drop m l)
drop_take zero n l = ap (λ (k : ℕ). take k l) {x = n} {y = n - 0} (omega arith)
drop_take (suc m) zero l = let e : 0 - suc m ≡ 0 = omega arith in rw e
drop_take (suc m) (suc n) [] = sym (take_none (suc n - suc m))
  where
    take_none : {A : Type 0} (n : ℕ) → ◌≡◌ {A = List A} (take n []) []
    take_none zero = refl
    take_none (suc n) = refl
drop_take (suc m) (suc n) (x ∷ l) = let e : suc n - suc m ≡ n - m = omega arith in rw e (drop_take m n l)

pub told_as : (a b : Searched) → a.found ≡ b.found → a.place ≡ b.place → a.compared ≡ b.compared → a ≡ b
told_as a b p q r i = record { found = p i; place = q i; compared = r i }

one_after : (n : ℕ) (s : Searched) → after (n + 1) s ≡ after n (one_more s)
one_after n s = told_as _ _ refl refl (omega arith)

module _ (target : FiveNumbers) (xs : List FiveNumbers) where
  -- so many entries, from `before` on
  abbrev part : (before left : ℕ) → List FiveNumbers
  part before left = take left (drop before xs)

  -- the search goes on with them, as many steps as entries aren't compared yet
  pub record Going (before left count : ℕ) : Type 0 where
    pub within : before + left ≤ length xs
    pub few : count + left ≤ length xs
    pub same : after count (search_from (length xs - count) target before (part before left)) ≡ searched target xs

  pub start : (n : ℕ) → n ≡ length xs → Going 0 n 0
  unfolding searched
  start n e =
      record {
        within = omega arith;
        few = omega arith;
        same = told_as _ _ refl refl (omega arith)
            ∙ ap₂ (λ (k : ℕ) (l : List FiveNumbers). search_from k target 0 l) (sub-zero (length xs)) (take_all n xs (omega arith));
      }

  module _ (before left count : ℕ) (going : Going before left count) where
    entries : List FiveNumbers
    entries = part before left

    entries_long : length entries ≡ left
    unfolding entries
    entries_long = omega (arith, length-take left (drop before xs), length-drop before xs, going.within)

    -- nothing is left
    pub ended : left ≤ 0 → record { found = false; place = before; compared = count } ≡ searched target xs
    unfolding entries
    ended h =
        told_as _ (after count (nowhere before)) refl refl (omega arith)
        ∙ ap (after count) (sym (search_none (length xs - count) target before entries (omega (arith, entries_long)))) ∙ going.same

    module _ (more : 0 < left) where
      abbrev half : ℕ
      half = left / 2

      abbrev steps : ℕ
      steps = length xs - (count + 1)

      one_step : (m : ℕ) → m ≡ middle entries → search_from (suc steps) target before entries ≡ go_on (compared target (at entries m)) (found_at (before + m))
          (search_from steps target before (take m entries)) (search_from steps target (before + m + 1) (drop (m + 1) entries))
      one_step m e = rw e (search_step steps target before entries (omega (arith, entries_long)))

      the_middle : at xs (before + half) ≡ at entries half
      unfolding entries
      the_middle = sym (get_or-take left (drop before xs) half zeros (omega arith) ∙ get_or-drop before xs half zeros)

      the_earlier : part before half ≡ take half entries
      unfolding entries
      the_earlier = sym (take-take half left (drop before xs) (omega arith))

      the_later : part (before + half + 1) (left - 1 - half) ≡ drop (half + 1) entries
      unfolding entries
      the_later =
          let e : left - 1 - half ≡ left - (half + 1) = omega arith in
          let d : before + half + 1 ≡ before + (half + 1) = omega arith in
          ap₂ (λ (n m : ℕ). take n (drop m xs)) e d
          ∙ ap (take (left - (half + 1))) (sym (drop-drop (half + 1) before xs)) ∙ sym (drop_take (half + 1) left (drop before xs))

      -- what a step goes on with, by where the target stands
      abbrev goes : Order → Searched
      goes o =
          go_on o (found_at (before + half)) (search_from steps target before (part before half))
          (search_from steps target (before + half + 1) (part (before + half + 1) (left - 1 - half)))

      step : (o : Order) → compared target (at xs (before + half)) ≡ o → after count (goes o) ≡ searched target xs
      unfolding entries
      step o e =
          let fuel : suc steps ≡ length xs - count = omega (arith, going.few) in
          ap (λ (p : Order). after count (goes p)) (sym e) ∙ ap (after count) (to_entries ∙ sym (one_step half (ap (λ (n : ℕ). n / 2) (sym entries_long))))
          ∙ ap (λ (n : ℕ). after count (search_from n target before entries)) fuel ∙ going.same
        where
          to_entries : goes (compared target (at xs (before + half))) ≡ go_on (compared target (at entries half)) (found_at (before + half))
              (search_from steps target before (take half entries)) (search_from steps target (before + half + 1) (drop (half + 1) entries))
          to_entries i =
              go_on (compared target (the_middle i)) (found_at (before + half)) (search_from steps target before (the_earlier i))
              (search_from steps target (before + half + 1) (the_later i))

      pub here : compared target (at xs (before + half)) ≡ Same → record { found = true; place = before + half; compared = count + 1 } ≡ searched target xs
      here e = step Same e

      pub earlier : compared target (at xs (before + half)) ≡ Before → Going before half (count + 1)
      earlier e =
          record {
            within = omega (arith, going.within);
            few = omega (arith, going.few);
            same = one_after count _ ∙ step Before e;
          }

      pub later : compared target (at xs (before + half)) ≡ After → Going (before + half + 1) (left - 1 - half) (count + 1)
      later e =
          record {
            within = omega (arith, going.within);
            few = omega (arith, going.few);
            same = one_after count _ ∙ step After e;
          }

-- what the comparison with the entry at a place of the list told
pub entry_told : (target : FiveNumbers) (key : ℕ → FiveNumbers) (index : List ℕ) (i : ℕ) → i < length index → {row : ℕ} {n : FiveNumbers} {o : Order}
    → row ≡ get_or index i 0 → n ≡ key row → o ≡ compared target n → (r : Order) → o ≡ r → compared target (at (map key index) i) ≡ r
entry_told target key index i h p q e r f = ap (compared target) (map_at key index i 0 zeros h ∙ ap key (sym p) ∙ sym q) ∙ sym e ∙ f
