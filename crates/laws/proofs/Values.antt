-- A list of a function's values written to the front of another, place by place, and what is read there then.
use mathlib.Core.Path.{◌≡◌, refl, ap, sym, ◌∙◌}
use mathlib.Core.Bool.{Bool}
use mathlib.Core.List.{List, ◌++◌}
use Prim.Native.Nat.{ℕ, zero, suc, ◌+◌, ◌-◌, ◌≤◌, ◌<◌}
use native.Mathlib.Nat.{zero-add}
use native.Mathlib.Numerals.{add-one}
use native.Mathlib.Omega.{arith}
use lib.ListN.{length, get_or, set, drop, length-set, get_or-append, get_or-eq_default}
use lib.Seq.{sets, sets-eq, get_or-append-add, get_or-drop, drop-cons}
use Rattle.laws.specs.Prefix.{flag}
use Rattle.laws.specs.Values.{tabulate}

module _ (f : ℕ → ℕ) where
  -- xs is xs₀ with the values at the first i of n places written: with those left it is xs₀ with all
  pub record Writing (n : ℕ) (xs₀ xs : List ℕ) (i : ℕ) : Type 0 where
    pub within : i ≤ n
    pub size : length xs ≡ length xs₀
    pub left : sets xs i (tabulate f i (n - i)) ≡ sets xs₀ 0 (tabulate f 0 n)

  pub write_start : (n : ℕ) (xs : List ℕ) → Writing n xs xs 0
  write_start n xs =
      let e : n - 0 ≡ n = omega arith in
      record { within = omega arith; size = refl; left = rw e }

  module _ (n : ℕ) (xs₀ xs : List ℕ) (i : ℕ) (w : Writing n xs₀ xs i) where
    pub write_more : (v : ℕ) → i < n → v ≡ f i → Writing n xs₀ (set xs i v) (i + 1)
    unfolding tabulate
    write_more v h is =
        let e : n - i ≡ suc (n - (i + 1)) = omega arith in
        record {
          within = omega arith;
          size = length-set xs i v ∙ w.size;
          left = rw (is, add-one i) (rw (e, add-one i) at w.left);
        }

    -- by a call that stores
    pub write_put : (v : ℕ) (ys : List ℕ) → i < n → ys ≡ set xs i v → v ≡ f i → Writing n xs₀ ys (i + 1)
    write_put v ys h put is = rw put (write_more v h is)

    pub write_flag : (t u : Bool) (ys : List ℕ) → i < n → ys ≡ set xs i (flag t) → t ≡ u → flag u ≡ f i → Writing n xs₀ ys (i + 1)
    write_flag t u ys h put e is = rw (put, e) (write_more (flag u) h is)

    pub write_end : n ≤ i → xs ≡ sets xs₀ 0 (tabulate f 0 n)
    unfolding tabulate
    write_end h =
        let e : n - i ≡ 0 = omega arith in
        rw e at w.left

  -- the list of the values itself
  pub tabulate_length : (lo n : ℕ) → length (tabulate f lo n) ≡ n
  unfolding tabulate
  tabulate_length lo zero = refl
  tabulate_length lo (suc n) = ap suc (tabulate_length (lo + 1) n)

  pub tabulate_at : (lo n i : ℕ) → i < n → get_or (tabulate f lo n) i 0 ≡ f (lo + i)
  unfolding tabulate
  tabulate_at lo zero i h = absurd (omega arith)
  tabulate_at lo (suc n) zero h = ap f (omega arith)
  tabulate_at lo (suc n) (suc i) h = tabulate_at (lo + 1) n i (omega arith) ∙ ap f (omega arith)

  module _ (xs : List ℕ) (n : ℕ) (room : n ≤ length xs) where
    -- the values, and then what stood there
    pub written : sets xs 0 (tabulate f 0 n) ≡ tabulate f 0 n ++ drop n xs
    written = sets-eq (tabulate f 0 n) xs 0 (omega (arith, tabulate_length 0 n)) ∙ rw (zero-add, tabulate_length 0 n)

    pub written_at : (i : ℕ) → i < n → get_or (sets xs 0 (tabulate f 0 n)) i 0 ≡ f i
    written_at i h = rw (written, get_or-append (tabulate f 0 n) (drop n xs) 0 i (omega (arith, tabulate_length 0 n)))
        (tabulate_at 0 n i h ∙ ap f (omega arith))

    pub written_past : (i : ℕ) → n ≤ i → get_or (sets xs 0 (tabulate f 0 n)) i 0 ≡ get_or xs i 0
    written_past i h =
        let e : i ≡ length (tabulate f 0 n) + (i - n) = omega (arith, tabulate_length 0 n) in
        let s : n + (i - n) ≡ i = omega arith in
        ap (λ (l : List ℕ). get_or l i 0) written
        ∙ ap (λ (k : ℕ). get_or (tabulate f 0 n ++ drop n xs) k 0) e
        ∙ get_or-append-add (tabulate f 0 n) (drop n xs) (i - n) 0
        ∙ get_or-drop n xs (i - n) 0
        ∙ ap (λ (k : ℕ). get_or xs k 0) s

-- reads of an array: what stands past its end is told by the reader
module _ (s : List ℕ) (i : ℕ) where
  pub past_end : (d : ℕ) → length s ≤ i → d ≡ get_or s i d
  past_end d h = sym (get_or-eq_default s d h)

  pub any_default : (d e : ℕ) → i < length s → get_or s i d ≡ get_or s i e
  any_default d e h =
      let p = drop-cons s i d h in
      let q = drop-cons s i e h in
      cc
