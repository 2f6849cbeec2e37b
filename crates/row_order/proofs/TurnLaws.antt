-- One law for each return: the turn of a row, the rows of a turn, and whether a row is due.
use mathlib.Core.Path.{◌≡◌, refl, ap, ◌∙◌}
use mathlib.Core.Bool.{Bool, true, false, ◌&&◌}
use mathlib.Core.List.{List, [], ◌∷◌}
use Prim.Native.Nat.{ℕ, suc, ◌+◌, ◌-◌, ◌/◌, ◌≤◌, ◌<◌}
use native.Mathlib.Omega.{arith}
use lib.Dec.{eqb, ltb}
use lib.ListN.{length, get_or, set, length-set}
use lib.Seq.{sets}
use borrow.Author.Tests.{eq-eqb, ne_eqb, lt-ltb, le-ltb}
use Rattle.laws.specs.Prefix.{all_from}
use Rattle.laws.proofs.Cases.{cond_cases}
use Rattle.row_order.specs.RowOrder.{turn_of}

module _ (v : ℕ) where
  pub turn_good : v / 256 < 1 → 0 ≡ turn_of v
  unfolding turn_of
  turn_good a = rw (lt-ltb _ _ a)

  pub turn_formed : 1 ≤ v / 256 → v / 256 < 9 → 1 ≡ turn_of v
  unfolding turn_of
  turn_formed a b = rw (le-ltb _ _ a, lt-ltb _ _ b)

  pub turn_naming : 1 ≤ v / 256 → 9 ≤ v / 256 → v / 256 ≡ 11 → 3 ≡ turn_of v
  unfolding turn_of
  turn_naming a b e = rw (le-ltb _ _ a, le-ltb _ _ b, eq-eqb _ _ e)

  pub turn_digit : 1 ≤ v / 256 → 9 ≤ v / 256 → (v / 256 ≡ 11 → ⊥) → 12 < v / 256 → 1 ≡ turn_of v
  unfolding turn_of
  turn_digit a b e d = rw (le-ltb _ _ a, le-ltb _ _ b, ne_eqb _ _ e, lt-ltb _ _ d)

  pub turn_keyed : 1 ≤ v / 256 → 9 ≤ v / 256 → (v / 256 ≡ 11 → ⊥) → v / 256 ≤ 12 → 2 ≡ turn_of v
  unfolding turn_of
  turn_keyed a b e d = rw (le-ltb _ _ a, le-ltb _ _ b, ne_eqb _ _ e, le-ltb _ _ d)

-- a turn is one of three, or 0
pub turn_cases : (P : ℕ → Type 0) (v : ℕ) → P 0 → P 1 → P 2 → P 3 → P (turn_of v)
unfolding turn_of
turn_cases P v none first second third =
    cond_cases P (ltb (v / 256) 1) (λ _. none)
    (λ _. cond_cases P (ltb (v / 256) 9) (λ _. first)
    (λ _. cond_cases P (eqb (v / 256) 11) (λ _. third)
    (λ _. cond_cases P (ltb 12 (v / 256)) (λ _. first) (λ _. second))))

-- whether a row is in a turn
module _ (cells : List ℕ) (i turn : ℕ) (v : ℕ) (cell : v ≡ get_or cells i 0) (t : ℕ) (e : t ≡ turn_of v) where
  pub in_turn_lem : t ≡ turn → eqb (turn_of (get_or cells i 0)) turn ≡ true
  in_turn_lem q = rw (← cell, ← e) (eq-eqb t turn q)

  pub not_in_turn : (t ≡ turn → ⊥) → eqb (turn_of (get_or cells i 0)) turn ≡ false
  not_in_turn q = rw (← cell, ← e) (ne_eqb t turn q)

-- whether a row is due
module _ (cells told : List ℕ) (i : ℕ) (v : ℕ) (cell : v ≡ get_or cells i 0) (t : ℕ) (turn : t ≡ turn_of v) where
  pub due_turn : t ≡ 3 → (m : ℕ) → m ≡ get_or told i 0 → eqb m 0 ≡ (eqb (turn_of (get_or cells i 0)) 3 && eqb (get_or told i 0) 0)
  due_turn e m mark = rw (← cell, ← turn, eq-eqb t 3 e, ← mark)

  pub due_not : (t ≡ 3 → ⊥) → false ≡ (eqb (turn_of (get_or cells i 0)) 3 && eqb (get_or told i 0) 0)
  due_not e = rw (← cell, ← turn, ne_eqb t 3 e)

-- the rows of a turn, one after the other: what is left gives what the whole gives
module _ (passes : ℕ → Bool) (n from : ℕ) (order₀ : List ℕ) where
  pub record Turning (order : List ℕ) (at i : ℕ) : Type 0 where
    pub within : i ≤ n
    pub most : at ≤ from + i
    pub long : length order ≡ length order₀
    pub ends : at + length (all_from passes i (n - i)) ≡ from + length (all_from passes 0 n)
    pub left : sets order at (all_from passes i (n - i)) ≡ sets order₀ from (all_from passes 0 n)

  pub turning_none : Turning order₀ from 0
  turning_none =
      let z : n - 0 ≡ n = omega arith in
      record { within = omega arith; most = omega arith; long = refl; ends = rw z; left = rw z }

  module _ (order : List ℕ) (at i : ℕ) (l : Turning order at i) where
    all_here : i < n → passes i ≡ true → all_from passes i (n - i) ≡ i ∷ all_from passes (i + 1) (n - (i + 1))
    unfolding all_from
    all_here h e = let z : n - i ≡ suc (n - (i + 1)) = omega arith in rw (z, e)

    all_more : i < n → passes i ≡ false → all_from passes i (n - i) ≡ all_from passes (i + 1) (n - (i + 1))
    unfolding all_from
    all_more h e = let z : n - i ≡ suc (n - (i + 1)) = omega arith in rw (z, e)

    all_done : n ≤ i → all_from passes i (n - i) ≡ []
    unfolding all_from
    all_done h = let z : n - i ≡ 0 = omega arith in rw z

    pub turning_here : i < n → passes i ≡ true → (order' : List ℕ) → order' ≡ set order at i → (at' : ℕ) → at' ≡ at + 1 → Turning order' at' (i + 1)
    turning_here h e order' o at' a =
        let z : at' ≡ suc at = omega arith in
        record {
          within = omega arith;
          most = omega (arith, l.most);
          long = ap length o ∙ length-set order at i ∙ l.long;
          ends = omega (arith, l.ends, ap length (all_here h e));
          left = rw (z, o) (rw (all_here h e) at l.left);
        }

    pub turning_more : i < n → passes i ≡ false → Turning order at (i + 1)
    turning_more h e =
        record {
          within = omega arith;
          most = omega (arith, l.most);
          long = l.long;
          ends = rw (all_more h e) at l.ends;
          left = rw (all_more h e) at l.left;
        }

    pub turning_ends : n ≤ i → at ≡ from + length (all_from passes 0 n)
    turning_ends h = omega (arith, l.ends, ap length (all_done h))

    pub turning_left : n ≤ i → order ≡ sets order₀ from (all_from passes 0 n)
    turning_left h = rw (all_done h) at l.left
