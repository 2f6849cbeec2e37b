-- One law of all arrays by id: what stands under an id after a marked row has put a number under its own.
use mathlib.Core.Path.{◌≡◌, refl, ap, sym, ◌∙◌}
use mathlib.Core.Bool.{Bool, true, false, cond, ◌&&◌}
use mathlib.Core.List.{List}
use Prim.Native.Nat.{ℕ, ◌<◌}
use native.Mathlib.Omega.{arith}
use native.Mathlib.Decide.{ℕ_discrete}
use lib.Dec.{eqb}
use lib.ListN.{length, get_or, set, length-set}
use lib.Seq.{get_or-set_same, get_or-set_other}
use borrow.Author.Tests.{eq-eqb, ne_eqb}
use Rattle.passes.specs.Marked.{put_marked}

pub put_size : (mark id x : ℕ) (xs : List ℕ) → length (put_marked mark id x xs) ≡ length xs
unfolding put_marked
put_size mark id x xs = go (eqb mark 1)
  where
    go : (t : Bool) → length (cond t (set xs id x) xs) ≡ length xs
    go true = length-set xs id x
    go false = refl

-- THE LAW OF ARRAYS BY ID: what stands under an id is what was put there, or what stood there
pub put_under : (mark id x : ℕ) (xs : List ℕ) (j : ℕ) → j < length xs → get_or (put_marked mark id x xs) j 0 ≡ cond (eqb id j && eqb mark 1) x (get_or xs j 0)
unfolding put_marked
put_under mark id x xs j h = go (ℕ_discrete id j)
  where
    same : (t : Bool) → id ≡ j → get_or (cond t (set xs id x) xs) j 0 ≡ cond t x (get_or xs j 0)
    same true e = ap (λ (k : ℕ). get_or (set xs id x) k 0) (sym e) ∙ get_or-set_same xs id x 0 (omega arith)
    same false e = refl

    other : (t : Bool) → (id ≡ j → ⊥) → get_or (cond t (set xs id x) xs) j 0 ≡ get_or xs j 0
    other true z = get_or-set_other xs id j x 0 (λ q. z (sym q))
    other false z = refl

    go : Dec (id ≡ j) → get_or (cond (eqb mark 1) (set xs id x) xs) j 0 ≡ cond (eqb id j && eqb mark 1) x (get_or xs j 0)
    go (yes e) = rw (eq-eqb id j e) (same (eqb mark 1) e)
    go (no z) = rw (ne_eqb id j z) (other (eqb mark 1) z)
