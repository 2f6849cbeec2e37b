-- Laws of strings: each case of the answer, and the part.
use mathlib.Core.Path.{◌≡◌, refl, sym, ap, ◌∙◌}
use mathlib.Core.Bool.{Bool, true, false, cond}
use mathlib.Core.List.{List, []}
use Prim.Native.Nat.{ℕ, ◌+◌, ◌-◌, ◌*◌, ◌/◌, ◌%◌, ◌<◌, ◌≤◌}
use native.Mathlib.Omega.{arith}
use lib.Dec.{eqb, leb}
use lib.IntN.{ℤ, pos}
use lib.ListN.{length, get_or, take, drop, length-take, length-drop}
use lib.Seq.{ext_get_or, get_or-take, get_or-drop}
use borrow.Author.Tests.{le-leb, lt-leb, eq-eqb, ne_eqb, eqb-true, eqb-false, leb-true, leb-false}
use Rattle.laws.proofs.Cases.{bool_cases}
use Rattle.fields.specs.Place.{inside}
use Rattle.laws.specs.Said.{value, refused, free}
use Rattle.string_fields.specs.Text.{string_at, part_at}
use Rattle.fields.proofs.PlaceLaws.{inside_yes, inside_no, inside_same, inside_every}

module _ (p : List ℕ) (at n : ℕ) where
  pub string_none : n ≡ 0 → free ≡ string_at p at n
  unfolding string_at
  string_none e = rw (eq-eqb n 0 e)

  pub string_outside : 0 < n → length p * 8 < at + n * 8 → refused 28 ≡ string_at p at n
  unfolding string_at
  string_outside h k = rw (ne_eqb n 0 (λ e. omega arith), inside_no p at (n * 8) (omega arith) k)

  pub string_off_byte : 0 < n → at + n * 8 ≤ length p * 8 → 0 < at % 8 → refused 29 ≡ string_at p at n
  unfolding string_at
  string_off_byte h k l = rw (ne_eqb n 0 (λ e. omega arith), inside_yes p at (n * 8) k, ne_eqb (at % 8) 0 (λ e. omega arith))

  pub string_inside : 0 < n → at + n * 8 ≤ length p * 8 → at % 8 ≡ 0 → value (pos (at / 8)) ≡ string_at p at n
  unfolding string_at
  string_inside h k e = rw (ne_eqb n 0 (λ e. omega arith), inside_yes p at (n * 8) k, eq-eqb (at % 8) 0 e)

-- what a string with a place is: it has bytes, starts on that byte, and all of it is inside
pub record String-read (p : List ℕ) (at n : ℕ) (z : ℤ) : Type 0 where
  pub some : 0 < n
  pub on_byte : at % 8 ≡ 0
  pub here : at / 8 + n ≤ length p
  pub is : z ≡ pos (at / 8)

pub string_read : (p : List ℕ) (at n : ℕ) (z : ℤ) → value z ≡ string_at p at n → String-read p at n z
unfolding string_at
string_read p at n z e = by (eqb n 0) (inside p at (n * 8)) (eqb (at % 8) 0) refl refl refl e
  where
    positive : (n : ℕ) → (n ≡ 0 → ⊥) → 0 < n
    positive n h = omega arith

    by : (a b c : Bool) → eqb n 0 ≡ a → inside p at (n * 8) ≡ b → eqb (at % 8) 0 ≡ c
        → value z ≡ cond a free (cond b (cond c (value (pos (at / 8))) (refused 29)) (refused 28)) → String-read p at n z
    by false true true f g h e =
        let s : 0 < n = positive n (eqb-false n 0 f) in
        let m = eqb-true (at % 8) 0 h in
        record { some = s; on_byte = m; here = omega (arith, inside_every p at (n * 8) g (n * 8 - 1) (omega arith)); is = cc }
    by true b c f g h e = absurd (let z : ◌≡◌ {A = ℕ} 0 1 = cc in omega arith)
    by false true false f g h e = absurd (let z : ◌≡◌ {A = ℕ} 0 1 = cc in omega arith)
    by false false c f g h e = absurd (let z : ◌≡◌ {A = ℕ} 0 1 = cc in omega arith)

-- it depends on the number of bytes alone
pub string_same : (p q : List ℕ) (at n : ℕ) → length p ≡ length q → string_at p at n ≡ string_at q at n
unfolding string_at
string_same p q at n e = rw (inside_same p q at (n * 8) e)

pub part_out : (p : List ℕ) (from n : ℕ) → length p < from + n → [] ≡ part_at p from n
unfolding part_at
part_out p from n h = rw (lt-leb (from + n) (length p) h)

pub part_in : (p : List ℕ) (from n : ℕ) → from + n ≤ length p → take n (drop from p) ≡ part_at p from n
unfolding part_at
part_in p from n h = rw (le-leb (from + n) (length p) h)

-- the part from `from` to an end is the one of that many bytes
pub part_to : (p : List ℕ) (from n : ℕ) → from + n ≤ length p → take (from + n - from) (drop from p) ≡ part_at p from n
part_to p from n h = ap (λ (k : ℕ). take k (drop from p)) (count from n) ∙ part_in p from n h
  where
    count : (a b : ℕ) → a + b - a ≡ b
    count a b = omega arith

-- a part that is inside has its n bytes
pub part_length : (p : List ℕ) (from n : ℕ) → from + n ≤ length p → length (part_at p from n) ≡ n
part_length p from n h = rw (← part_in p from n h) (simp (length-take, length-drop) (omega arith))

pub part_at_lem : (p : List ℕ) (from n i : ℕ) → from + n ≤ length p → i < n → get_or (part_at p from n) i 0 ≡ get_or p (from + i) 0
part_at_lem p from n i h k = rw (← part_in p from n h) (rw (get_or-take, get_or-drop))

-- a part depends on the number of bytes and on its own bytes alone
pub part_same : (p q : List ℕ) (from n : ℕ) → length p ≡ length q → ((i : ℕ) → i < n → get_or p (from + i) 0 ≡ get_or q (from + i) 0)
    → part_at p from n ≡ part_at q from n
part_same p q from n e h =
    bool_cases (leb (from + n) (length p))
    (λ t. let k = leb_is t in
    ext_get_or 0 (part_at p from n) (part_at q from n) (part_length p from n k ∙ sym (part_length q from n (omega arith)))
    (λ i l. let m : i < n = omega (arith, part_length p from n k) in part_at_lem p from n i k m ∙ h i m ∙ sym (part_at_lem q from n i (omega arith) m)))
    (λ t. let k = leb_not t in sym (part_out p from n k) ∙ part_out q from n (omega arith))
  where
    leb_is : leb (from + n) (length p) ≡ true → from + n ≤ length p
    leb_is t = omega (arith, leb-true (from + n) (length p) t)

    leb_not : leb (from + n) (length p) ≡ false → length p < from + n
    leb_not t = omega (arith, leb-false (from + n) (length p) t)
