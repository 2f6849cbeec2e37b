-- The places of causes, put one after the other: what is left gives what the whole gives.
use mathlib.Core.Path.{◌≡◌, refl, ap, ◌∙◌}
use mathlib.Core.Bool.{Bool, true, false}
use mathlib.Core.List.{List, [], ◌∷◌}
use Prim.Native.Nat.{ℕ, suc, ◌+◌, ◌-◌, ◌≤◌, ◌<◌}
use native.Mathlib.Omega.{arith}
use lib.ListN.{length, set, length-set}
use lib.Seq.{sets}
use Rattle.laws.specs.Prefix.{all_from}

module _ (passes : ℕ → Bool) (n : ℕ) (places₀ : List ℕ) where
  pub record Putting (places : List ℕ) (count j : ℕ) : Type 0 where
    pub within : j ≤ n
    pub most : count ≤ j
    pub long : length places ≡ length places₀
    pub ends : count + length (all_from passes j (n - j)) ≡ length (all_from passes 0 n)
    pub left : sets places count (all_from passes j (n - j)) ≡ sets places₀ 0 (all_from passes 0 n)

  pub putting_none : Putting places₀ 0 0
  putting_none =
      let z : n - 0 ≡ n = omega arith in
      record { within = omega arith; most = omega arith; long = refl; ends = rw z (omega arith); left = rw z }

  module _ (places : List ℕ) (count j : ℕ) (l : Putting places count j) where
    all_here : j < n → passes j ≡ true → all_from passes j (n - j) ≡ j ∷ all_from passes (j + 1) (n - (j + 1))
    unfolding all_from
    all_here h e = let z : n - j ≡ suc (n - (j + 1)) = omega arith in rw (z, e)

    all_more : j < n → passes j ≡ false → all_from passes j (n - j) ≡ all_from passes (j + 1) (n - (j + 1))
    unfolding all_from
    all_more h e = let z : n - j ≡ suc (n - (j + 1)) = omega arith in rw (z, e)

    all_done : n ≤ j → all_from passes j (n - j) ≡ []
    unfolding all_from
    all_done h = let z : n - j ≡ 0 = omega arith in rw z

    pub putting_here : j < n → passes j ≡ true → (places' : List ℕ) → places' ≡ set places count j → Putting places' (count + 1) (j + 1)
    putting_here h e places' p =
        let z : count + 1 ≡ suc count = omega arith in
        record {
          within = omega arith;
          most = omega (arith, l.most);
          long = ap length p ∙ length-set places count j ∙ l.long;
          ends = omega (arith, l.ends, ap length (all_here h e));
          left = rw (z, p) (rw (all_here h e) at l.left);
        }

    pub putting_more : j < n → passes j ≡ false → Putting places count (j + 1)
    putting_more h e =
        record {
          within = omega arith;
          most = omega (arith, l.most);
          long = l.long;
          ends = rw (all_more h e) at l.ends;
          left = rw (all_more h e) at l.left;
        }

    pub putting_ends : n ≤ j → count ≡ length (all_from passes 0 n)
    putting_ends h = omega (arith, l.ends, ap length (all_done h))

    pub putting_left : n ≤ j → places ≡ sets places₀ 0 (all_from passes 0 n)
    putting_left h = rw (all_done h) at l.left
