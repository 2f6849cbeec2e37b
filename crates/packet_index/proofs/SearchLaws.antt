-- What a search tells: few entries are compared, and in a list that rises it finds what is there and nothing else.
use mathlib.Core.Path.{◌≡◌, refl, sym, ◌∙◌}
use mathlib.Core.Bool.{Bool, true, false}
use mathlib.Core.List.{List}
use Prim.Native.Nat.{ℕ, zero, suc, ◌^◌, ◌≤◌, ◌<◌}
use native.Mathlib.Nat.{two-pow-succ}
use native.Mathlib.Omega.{arith}
use native.Mathlib.Decide.{dec_lt}
use lib.Dec.{leb}
use lib.ListN.{length}
use borrow.Author.Tests.{leb-false}
use Rattle.laws.specs.Prefix.{last_with}
use Rattle.laws.proofs.Last.{Last, last_tells}
use Rattle.laws.proofs.Cases.{false≢true}
use Rattle.key_symbols.specs.declared.FiveNumbers.{FiveNumbers}
use Rattle.packet_order.specs.declared.Order.TheVariants.{Before, After}
use Rattle.packet_order.specs.Order.{compared}
use Rattle.packet_order.proofs.OrderLaws.{compared_same, never_before_itself}
use Rattle.packet_index.specs.Index.{rising}
use Rattle.packet_index.specs.Search.{searched, bits}
use Rattle.packet_index.proofs.RisingLaws.{at, rising_rises}
use Rattle.packet_index.proofs.StepLaws.{steps_few, Told, told, Placed, placed}

below_power : (n : ℕ) → n < 2 ^ n
below_power zero = omega arith
below_power (suc n) = omega (arith, below_power n, two-pow-succ n)

-- a number is below the power of two of its bits
pub below_bits : (n : ℕ) → n < 2 ^ bits n
unfolding bits
below_bits n = go (dec_lt (last_with fits n) n) (last_tells fits n)
  where
    fits : ℕ → Bool
    fits k = leb (2 ^ k) n

    go : Dec (last_with fits n < n) → Last fits n (last_with fits n) → n < 2 ^ last_with fits n
    go (yes h) l = leb-false (2 ^ last_with fits n) n (l.none (last_with fits n) (omega arith) h)
    go (no h) l = let e : last_with fits n ≡ n = omega (arith, l.within) in rw e (below_power n)

module _ (target : FiveNumbers) (xs : List FiveNumbers) where
  -- at most as many entries are compared as the number of entries has bits
  pub compared_few : (searched target xs).compared ≤ bits (length xs)
  unfolding searched
  compared_few = steps_few (bits (length xs)) (length xs) target 0 xs (below_bits (length xs))

  -- 02, P4: "never over 11"
  pub never_over_11 : length xs ≤ 1024 → (searched target xs).compared ≤ 11
  unfolding searched
  never_over_11 h = steps_few 11 (length xs) target 0 xs (omega arith)

  tells : Told target 0 xs (searched target xs)
  unfolding searched
  tells = told (length xs) target 0 xs

  -- the place is one of the list's, or past its last
  pub place_within : (searched target xs).place ≤ length xs
  place_within = omega (arith, tells.to)

  -- what is found stands at its place, in any list
  pub found_stands : (searched target xs).found ≡ true → ((searched target xs).place < length xs) × (at xs (searched target xs).place ≡ target)
  found_stands e = tells.hit e (searched target xs).place (omega arith)

  module _ (rises : rising xs ≡ true) where
    places : Placed target 0 xs (searched target xs)
    unfolding searched
    places = placed (length xs) target 0 xs (omega arith) (rising_rises xs rises)

    -- where nothing is found, those before the place come before the target, and those from it on after it
    pub search_place : (searched target xs).found ≡ false
        → ((i : ℕ) → i < (searched target xs).place → compared (at xs i) target ≡ Before)
        × ((i : ℕ) → (searched target xs).place ≤ i → i < length xs → compared (at xs i) target ≡ After)
    search_place e = ((λ i h. places.less e i (omega arith)), λ i h k. places.more e i (omega arith) k)

    -- what stands there is found
    pub search_finds : (i : ℕ) → i < length xs → at xs i ≡ target → ((searched target xs).found ≡ true) × ((searched target xs).place ≡ i)
    search_finds i h e = (is_found, one_place)
      where
        never : (searched target xs).found ≡ false → ⊥
        never f = go (dec_lt i (searched target xs).place)
          where
            go : Dec (i < (searched target xs).place) → ⊥
            go (yes p) = never_before_itself target (rw e at ((search_place f).0 i p))
            go (no p) =
                let a : compared target target ≡ After = rw e at ((search_place f).1 i (omega arith) h) in
                let z : ◌≡◌ {A = ℕ} 0 1 = cc (compared_same target) in
                omega arith

        is_found : (searched target xs).found ≡ true
        is_found = go (searched target xs).found refl
          where
            go : (t : Bool) → (searched target xs).found ≡ t → t ≡ true
            go true p = refl
            go false p = absurd (never p)

        apart : (j k : ℕ) → j < k → k < length xs → at xs j ≡ target → at xs k ≡ target → ⊥
        apart j k p q ej ek = never_before_itself target (rw (ej, ek) at (rising_rises xs rises j k p q))

        one_place : (searched target xs).place ≡ i
        one_place = go (dec_lt (searched target xs).place i) (dec_lt i (searched target xs).place) (found_stands is_found)
          where
            go : Dec ((searched target xs).place < i) → Dec (i < (searched target xs).place)
                → ((searched target xs).place < length xs) × (at xs (searched target xs).place ≡ target) → (searched target xs).place ≡ i
            go (yes p) q s = absurd (apart (searched target xs).place i p h s.1 e)
            go (no p) (yes q) s = absurd (apart i (searched target xs).place q s.0 e s.1)
            go (no p) (no q) s = omega arith

    -- and where nothing is found it stands nowhere
    pub search_misses : (searched target xs).found ≡ false → (i : ℕ) → i < length xs → at xs i ≡ target → ⊥
    search_misses f i h e = false≢true (sym f ∙ (search_finds i h e).0)
