-- The values of a function put to a list from a place on, one by one, and what is read there then.
use mathlib.Core.Path.{◌≡◌, refl, ap, ◌∙◌}
use mathlib.Core.List.{List, [], ◌∷◌}
use Prim.Native.Nat.{ℕ, zero, suc, ◌+◌, ◌-◌, ◌≤◌, ◌<◌}
use native.Mathlib.Omega.{arith}
use lib.ListN.{length, get_or, set, length-set}
use lib.Seq.{sets, length-sets, get_or-set_same, get_or-set_other}
use Rattle.laws.specs.Values.{tabulate}
use Rattle.laws.proofs.Values.{tabulate_length, tabulate_at}
use Rattle.index_columns.specs.Columns.{put_from}

module _ (f : ℕ → ℕ) (place : ℕ) where
  -- xs is xs₀ with the values at the first i of n places put: with those left it is xs₀ with all
  pub record Putting (n : ℕ) (xs₀ xs : List ℕ) (i : ℕ) : Type 0 where
    pub within : i ≤ n
    pub size : length xs ≡ length xs₀
    pub left : sets xs (place + i) (tabulate f i (n - i)) ≡ put_from xs₀ place f n

  pub put_start : (n : ℕ) (xs : List ℕ) → Putting n xs xs 0
  put_start n xs =
      let e : n - 0 ≡ n = omega arith in
      let z : place + 0 ≡ place = omega arith in
      record { within = omega arith; size = refl; left = rw (e, z) }

  module _ (n : ℕ) (xs₀ xs : List ℕ) (i : ℕ) (w : Putting n xs₀ xs i) where
    put_more : (v : ℕ) → i < n → v ≡ f i → Putting n xs₀ (set xs (place + i) v) (i + 1)
    unfolding tabulate
    put_more v h is =
        let e : n - i ≡ suc (n - (i + 1)) = omega arith in
        let s : place + (i + 1) ≡ suc (place + i) = omega arith in
        record {
          within = omega arith;
          size = length-set xs (place + i) v ∙ w.size;
          left = rw (is, s) (rw e at w.left);
        }

    -- by a call that stores
    pub put_next : (v : ℕ) (ys : List ℕ) → i < n → ys ≡ set xs (place + i) v → v ≡ f i → Putting n xs₀ ys (i + 1)
    put_next v ys h put is = rw put (put_more v h is)

    pub put_end : n ≤ i → xs ≡ put_from xs₀ place f n
    unfolding tabulate
    put_end h =
        let e : n - i ≡ 0 = omega arith in
        rw e at w.left

-- a list put from a place on, read elsewhere and there
sets_other : (vs xs : List ℕ) (place j : ℕ) → ((i : ℕ) → i < length vs → j ≡ place + i → ⊥) → get_or (sets xs place vs) j 0 ≡ get_or xs j 0
sets_other [] xs place j apart = refl
sets_other (v ∷ vs) xs place j apart =
    sets_other vs (set xs place v) (suc place) j (λ i h e. apart (suc i) (omega arith) (omega arith))
    ∙ get_or-set_other xs place j v 0 (λ e. apart 0 (omega arith) (omega arith))

sets_at : (vs xs : List ℕ) (place i : ℕ) → i < length vs → place + i < length xs → get_or (sets xs place vs) (place + i) 0 ≡ get_or vs i 0
sets_at [] xs place i h room = absurd (omega arith)
sets_at (v ∷ vs) xs place zero h room =
    let z : place + 0 ≡ place = omega arith in
    rw z (sets_other vs (set xs place v) (suc place) place (λ i p e. omega arith) ∙ get_or-set_same xs place v 0 (omega arith))
sets_at (v ∷ vs) xs place (suc i) h room =
    let s : place + suc i ≡ suc place + i = omega arith in
    rw s (sets_at vs (set xs place v) (suc place) i (omega arith) (rw length-set (omega arith)))

module _ (columns : List ℕ) (place : ℕ) (f : ℕ → ℕ) (n : ℕ) where
  pub put_size : length (put_from columns place f n) ≡ length columns
  put_size = length-sets columns place (tabulate f 0 n)

  pub put_at : (i : ℕ) → i < n → place + n ≤ length columns → get_or (put_from columns place f n) (place + i) 0 ≡ f i
  put_at i h room =
      sets_at (tabulate f 0 n) columns place i (omega (arith, tabulate_length f 0 n)) (omega arith) ∙ tabulate_at f 0 n i h ∙ ap f (omega arith)

  pub put_before : (j : ℕ) → j < place → get_or (put_from columns place f n) j 0 ≡ get_or columns j 0
  put_before j h = sets_other (tabulate f 0 n) columns place j (λ i p e. omega arith)

  pub put_after : (j : ℕ) → place + n ≤ j → get_or (put_from columns place f n) j 0 ≡ get_or columns j 0
  put_after j h = sets_other (tabulate f 0 n) columns place j (λ i p e. omega (arith, tabulate_length f 0 n))
