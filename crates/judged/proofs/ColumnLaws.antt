-- A column of what is kept is what the array has from its start to its end, or to the array's.
use mathlib.Core.Path.{◌≡◌, ap, sym, ◌∙◌}
use mathlib.Core.List.{List}
use Prim.Native.Nat.{ℕ, ◌+◌, ◌*◌, ◌-◌, ◌≤◌, min}
use native.Mathlib.Omega.{arith}
use lib.Dec.{leb}
use lib.ListN.{length, take, drop, length-drop, drop_of_length-le}
use lib.Seq.{take_all}
use borrow.Author.Tests.{leb-true, leb-false}
use Rattle.laws.proofs.Cases.{bool_cases}
use Rattle.arrays.specs.Room.{most_places}
use Rattle.judged.specs.Passes.{column_of}

-- taking more than there is takes all
take_least : (k m : ℕ) (l : List ℕ) → m ≡ min k (length l) → take m l ≡ take k l
take_least k m l e =
    bool_cases (leb k (length l)) (λ t. let q : m ≡ k = omega (arith, leb-true k (length l) t) in rw q)
    (λ t. take_all m l (omega (arith, leb-false k (length l) t)) ∙ sym (take_all k l (omega (arith, leb-false k (length l) t))))

-- and so does dropping
drop_least : (k m : ℕ) (l : List ℕ) → m ≡ min k (length l) → drop m l ≡ drop k l
drop_least k m l e =
    bool_cases (leb k (length l)) (λ t. let q : m ≡ k = omega (arith, leb-true k (length l) t) in rw q)
    (λ t.
    let p : length l ≤ m = omega (arith, leb-false k (length l) t) in
    let q : length l ≤ k = omega (arith, leb-false k (length l) t) in
    drop_of_length-le l p ∙ sym (drop_of_length-le l q))

pub column_part : (xs : List ℕ) (c from to : ℕ) → from ≡ min (c * most_places) (length xs) → to ≡ min (from + most_places) (length xs)
    → take (to - from) (drop from xs) ≡ column_of xs c
column_part xs c from to f t =
    take_least most_places (to - from) (drop from xs) (rw length-drop (omega arith)) ∙ ap (take most_places) (drop_least (c * most_places) from xs f)
