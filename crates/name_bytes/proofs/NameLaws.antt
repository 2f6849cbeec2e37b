-- Laws of names as they are made and compared, each once over the width.
use mathlib.Core.Path.{◌≡◌, refl, sym, ap, ap₂, ◌∙◌}
use mathlib.Core.Bool.{Bool, true, false, ◌&&◌}
use mathlib.Core.List.{List, [], ◌∷◌, ◌++◌}
use Prim.Native.Nat.{ℕ, zero, suc, ◌+◌, ◌-◌, ◌<◌, ◌≤◌}
use native.Mathlib.Omega.{arith}
use native.Mathlib.Nat.{zero-add, sub-zero, zero-sub, suc-sub-suc}
use native.Mathlib.Numerals.{add-one}
use lib.Dec.{eqb}
use lib.ListN.{length, get_or, take, drop, set, replicate, drop_of_length-le}
use lib.Seq.{paste-suc, take-append_seam}
use borrow.Author.Tests.{eq-eqb, ne_eqb, eqb-true, le-leb, lt-leb}
use Rattle.laws.proofs.Lists.{split}
use Rattle.laws.proofs.Cases.{bool_cases, false≢true, and_left, and_right, and_both}
use Rattle.name_bytes.specs.declared.Name.{Name}
use Rattle.name_bytes.specs.declared.CurveName.{CurveName}
use Rattle.name_bytes.specs.Names.{padded, fitting, name_of, curve_name_of, same_bytes, same_name, same_curve_name}

-- A text written to the front of other bytes

-- one byte more
pub put_more : (text to : List ℕ) (i : ℕ) → length text ≤ length to → i < length text
    → set (take i text ++ drop i to) i (get_or text i 0) ≡ take (i + 1) text ++ drop (i + 1) to
put_more text to i h k = rw (add-one i) (simp zero-add at (paste-suc to 0 text i 0 (omega arith) k))

zeros_left : (n m : ℕ) → drop {A = ℕ} m (replicate n 0) ≡ replicate (n - m) 0
zeros_left n zero = rw sub-zero
zeros_left zero (suc m) = rw zero-sub
zeros_left (suc n) (suc m) = rw suc-sub-suc (zeros_left n m)

-- over zeros
pub put_padded : (n : ℕ) (text : List ℕ) → text ++ drop (length text) (replicate n 0) ≡ padded n text
put_padded n text = rw (zeros_left n (length text))

pub fits : (n : ℕ) (text : List ℕ) → length text ≤ n → fitting n text ≡ text
fits n text h = rw (le-leb (length text) n h)

pub fits_not : (n : ℕ) (text : List ℕ) → n < length text → fitting n text ≡ []
fits_not n text h = rw (lt-leb (length text) n h)

-- Texts compared

module _ (xs ys : List ℕ) (i : ℕ) where
  pub same_more : i < length xs → i < length ys → get_or xs i 0 ≡ get_or ys i 0 → same_bytes (drop i xs) (drop i ys) ≡ same_bytes (drop (i + 1) xs) (drop (i + 1) ys)
  unfolding same_bytes
  same_more h k e = rw (split xs i 0 h, split ys i 0 k, eq-eqb (get_or xs i 0) (get_or ys i 0) e)

  pub same_not : i < length xs → i < length ys → (get_or xs i 0 ≡ get_or ys i 0 → ⊥) → same_bytes (drop i xs) (drop i ys) ≡ false
  unfolding same_bytes
  same_not h k n = rw (split xs i 0 h, split ys i 0 k, ne_eqb (get_or xs i 0) (get_or ys i 0) n)

  pub same_end : length xs ≤ i → length ys ≤ i → same_bytes (drop i xs) (drop i ys) ≡ true
  unfolding same_bytes
  same_end h k = rw (drop_of_length-le xs h, drop_of_length-le ys k)

-- the test says what it means
pub same_is : (xs ys : List ℕ) → same_bytes xs ys ≡ true → xs ≡ ys
unfolding same_bytes
same_is [] [] e = refl
same_is [] (y ∷ ys) e = absurd (false≢true e)
same_is (x ∷ xs) [] e = absurd (false≢true e)
same_is (x ∷ xs) (y ∷ ys) e =
    ap₂ (λ (z : ℕ) (zs : List ℕ). z ∷ zs) (eqb-true x y (and_left (eqb x y) (same_bytes xs ys) e)) (same_is xs ys (and_right (eqb x y) (same_bytes xs ys) e))

pub same_self : (xs : List ℕ) → same_bytes xs xs ≡ true
unfolding same_bytes
same_self [] = refl
same_self (x ∷ xs) = and_both (eq-eqb x x refl) (same_self xs)

-- texts of two lengths differ
pub same_length : (xs ys : List ℕ) → (length xs ≡ length ys → ⊥) → same_bytes xs ys ≡ false
same_length xs ys n = bool_cases (same_bytes xs ys) (λ t. absurd (n (ap length (same_is xs ys t)))) (λ f. f)

-- Names compared, at any width n

-- lengths, and bytes of some width, as a name keeps them
abbrev alike : ℕ → List ℕ → ℕ → List ℕ → Bool
alike k xs m ys = eqb k m && same_bytes xs ys

alike_is : (k : ℕ) (xs : List ℕ) (m : ℕ) (ys : List ℕ) → alike k xs m ys ≡ true → (k ≡ m) × (xs ≡ ys)
alike_is k xs m ys e = (eqb-true k m (and_left (eqb k m) (same_bytes xs ys) e), same_is xs ys (and_right (eqb k m) (same_bytes xs ys) e))

alike_self : (k : ℕ) (xs : List ℕ) → alike k xs k xs ≡ true
alike_self k xs = and_both (eq-eqb k k refl) (same_self xs)

-- with their lengths the padded bytes are the text
padded_is : (n : ℕ) (c d : List ℕ) → (length c ≡ length d) × (padded n c ≡ padded n d) → c ≡ d
padded_is n c d (k, e) =
    sym (take-append_seam c (replicate (n - length c) 0)) ∙ ap₂ (λ (m : ℕ) (l : List ℕ). take m l) k e ∙ take-append_seam d (replicate (n - length d) 0)

-- two tests that hold together
both : (s t : Bool) → (s ≡ true → t ≡ true) → (t ≡ true → s ≡ true) → s ≡ t
both true t f g = sym (f refl)
both false true f g = g refl
both false false f g = refl

-- names of texts that fit are compared as the texts are
alike_texts : (n : ℕ) (c d : List ℕ) → length c ≤ n → length d ≤ n
    → alike (length (fitting n c)) (padded n (fitting n c)) (length (fitting n d)) (padded n (fitting n d)) ≡ same_bytes c d
alike_texts n c d h k =
    rw (fits n c h, fits n d k)
    (both (alike (length c) (padded n c) (length d) (padded n d)) (same_bytes c d)
    (λ e. rw (padded_is n c d (alike_is (length c) (padded n c) (length d) (padded n d) e)) (same_self d))
    (λ e. rw (same_is c d e) (alike_self (length d) (padded n d))))

-- Eight bytes

pub same_name_is : (a b : Name) → same_name a b ≡ true → a ≡ b
unfolding same_name
same_name_is a b e = let p = alike_is a.len a.bytes b.len b.bytes e in λ i. record { bytes = p.1 i; len = p.0 i }

pub same_name_self : (a : Name) → same_name a a ≡ true
unfolding same_name
same_name_self a = alike_self a.len a.bytes

pub same_name_texts : (c d : List ℕ) → length c ≤ 8 → length d ≤ 8 → same_name (name_of c) (name_of d) ≡ same_bytes c d
unfolding same_name name_of
same_name_texts = alike_texts 8

-- Ten bytes

pub same_curve_name_is : (a b : CurveName) → same_curve_name a b ≡ true → a ≡ b
unfolding same_curve_name
same_curve_name_is a b e = let p = alike_is a.len a.bytes b.len b.bytes e in λ i. record { bytes = p.1 i; len = p.0 i }

pub same_curve_name_self : (a : CurveName) → same_curve_name a a ≡ true
unfolding same_curve_name
same_curve_name_self a = alike_self a.len a.bytes

pub same_curve_name_texts : (c d : List ℕ) → length c ≤ 10 → length d ≤ 10 → same_curve_name (curve_name_of c) (curve_name_of d) ≡ same_bytes c d
unfolding same_curve_name curve_name_of
same_curve_name_texts = alike_texts 10
