-- A list by what is left of it from a place on.
use mathlib.Core.Path.{◌≡◌, ap, sym, ◌∙◌}
use mathlib.Core.List.{List, ◌∷◌}
use Prim.Native.Nat.{ℕ, suc, ◌<◌}
use native.Mathlib.Omega.{arith}
use native.Mathlib.Nat.{add-zero}
use native.Mathlib.Numerals.{add-one}
use lib.ListN.{length, get_or, drop, length-drop}
use lib.Seq.{get_or-drop, drop-drop}

module _ {A : Type 0} where
  -- a list that is x and then xs from place n on
  pub at_below : (l : List A) (n : ℕ) {x : A} {xs : List A} → drop n l ≡ x ∷ xs → n < length l
  at_below l n e = omega (arith, length-drop n l, ap length e)

  pub at_is : (l : List A) (n : ℕ) (d : A) {x : A} {xs : List A} → drop n l ≡ x ∷ xs → get_or l n d ≡ x
  at_is l n d e = ap (λ (k : ℕ). get_or l k d) (sym (add-zero n)) ∙ sym (get_or-drop n l 0 d) ∙ ap (λ (ys : List A). get_or ys 0 d) e

  pub at_next : (l : List A) (n : ℕ) {x : A} {xs : List A} → drop n l ≡ x ∷ xs → drop (suc n) l ≡ xs
  at_next l n e = ap (λ (k : ℕ). drop k l) (sym (add-one n)) ∙ sym (drop-drop 1 n l) ∙ ap (drop 1) e
