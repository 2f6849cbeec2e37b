-- The sizes of doubles: what is rounded from a number that isn't too large is no infinity and no NaN,
-- and no larger than a power of two.
use Rattle.std.proofs.Common.{◌≡◌, ℕ, zero, suc, ◌+◌, ◌-◌, ◌*◌, ◌^◌, ◌<◌, ◌≤◌, Bool, true, false, cond, not, ◌&&◌, ◌||◌, T, eqb, ltb, ℤ, pos, negsuc, nat_abs, sym, refl, ap, ◌∙◌, subst, le_trans, le_of_eq, le_of_lt, mul-le-mul_right, mul_assoc, mul_comm, mul-le-mul, mul-pos, one-mul, pow-suc, mul-one, mul_right_comm, le_of_mul-le-mul_right, add-one, arith, lit<, eqb→eq, ltb→lt, pow_mono, pow-add}
use mathlib.Core.Bool.{beq}
use native.Mathlib.Nat.{mul-mul-mul_comm}
use lib.Pow.{pow-lt}
use lib.Ieee.{Float, nan, inf, fin, binary64, up, down, odd, units, round, neg, sum, add, mul, le, of_int, is_nan}
use lib.Ieee.Fits.{round_is, down_pos}
use lib.Ieee.Exact.{HasValue, round_exact}
use lib.Ieee.Order.{round_mono}
use Rattle.laws.proofs.Cases.{cond_cases}

-- a number of at most 2 ^ k in size
unfoldable pub Under : ℕ → Float → Type 0
Under k nan = ⊥
Under k (inf s) = ⊥
Under k (fin s m e) = m * up e ≤ 2 ^ k * down e

pub under_up : {i j : ℕ} (v : Float) → i ≤ j → Under i v → Under j v
unfolding Under
under_up {i = i} {j = j} nan h u = elim u [ ]
under_up {i = i} {j = j} (inf _) h u = elim u [ ]
under_up (fin s m e) h u = le_trans u (mul-le-mul_right (down e) (pow_mono h))

pub under_number : (k : ℕ) (v : Float) → Under k v → T (not (is_nan v))
unfolding Under is_nan
under_number k nan u = elim u [ ]
under_number k (inf _) u = elim u [ ]
under_number k (fin s m e) u = tt

-- ---- what is rounded

-- the sign of what is rounded
Signed : Bool → Float → Type 0
Signed s nan = ⊥
Signed s (inf t) = t ≡ s
Signed s (fin t m e) = t ≡ s

odd_signed : (d : ℕ) (s : Bool) (q k l : ℕ) → Signed s (odd d s q k l)
unfolding Signed odd
odd_signed d s zero k l = refl
odd_signed d s (suc q) k l = refl

units_signed : (s : Bool) (q k : ℕ) → Signed s (units binary64 s q k)
unfolding Signed units
units_signed s q k = cond_cases (Signed s) (ltb (q * 2 ^ k) (2 ^ 2098)) (λ t. odd_signed 54 s q k 1074) (λ t. refl)

round_signed : (s : Bool) (a c : ℕ) → Signed s (round binary64 s a c)
round_signed s a c = subst (Signed s) (sym (round_is binary64 s a c)) (units_signed s _ _)

odd_flip : (d q k l : ℕ) → odd d true q k l ≡ neg (odd d false q k l)
unfolding odd neg
odd_flip d zero k l = refl
odd_flip d (suc q) k l = refl

units_flip : (q k : ℕ) → units binary64 true q k ≡ neg (units binary64 false q k)
unfolding units neg
units_flip q k = go (ltb (q * 2 ^ k) (2 ^ 2098))
  where
    go : (b : Bool) → cond b (odd 54 true q k 1074) (inf true) ≡ neg (cond b (odd 54 false q k 1074) (inf false))
    go true = odd_flip 54 q k 1074
    go false = refl

round_flip : (a c : ℕ) → round binary64 true a c ≡ neg (round binary64 false a c)
round_flip a c = round_is binary64 true a c ∙ units_flip _ _ ∙ ap neg (sym (round_is binary64 false a c))

pub under_neg : (k : ℕ) (v : Float) → Under k v → Under k (neg v)
unfolding Under neg
under_neg k nan u = elim u [ ]
under_neg k (inf _) u = elim u [ ]
under_neg k (fin s m e) u = u

-- from the order of two numbers to their sizes
sizes : (a b : ℕ) (t : Bool) → T (ltb a b || (eqb a b && t)) → a ≤ b
sizes a b t = go (ltb a b) (eqb a b) (ltb→lt a b) (eqb→eq a b)
  where
    go : (x y : Bool) → (T x → a < b) → (T y → a ≡ b) → T (x || (y && t)) → a ≤ b
    go true y f g h = le_of_lt (f tt)
    go false true f g h = le_of_eq (g tt)
    go false false f g h = absurd h

below : (x y : Float) (k : ℕ) → Signed false x → HasValue y false (2 ^ k) 1 → T (le x y) → Under k x
unfolding Signed Under le
below nan y k s v h = absurd s
below (inf true) (fin t n d) k s v h = let z : ◌≡◌ {A = ℕ} 0 1 = cc in absurd (omega arith)
below (inf false) nan k s v h = elim v [ ]
below (inf false) (inf _) k s v h = elim v [ ]
below (inf true) nan k s v h = elim v [ ]
below (inf true) (inf _) k s v h = elim v [ ]
below (fin false m e) nan k s v h = elim v [ ]
below (fin false m e) (inf _) k s v h = elim v [ ]
below (inf false) (fin t n d) k s v h = absurd h
below (fin true m e) y k s v h = let z : ◌≡◌ {A = ℕ} 0 1 = cc in absurd (omega arith)
below (fin false m e) (fin true n d) k s v h = let p = v.0 in let z : ◌≡◌ {A = ℕ} 0 1 = cc in absurd (omega arith)
below (fin false m e) (fin false n d) k s v h =
    let l : m * up e * down d ≤ n * up d * down e = sizes (m * up e * down d) (n * up d * down e) _ h in
    let q : n * up d ≡ 2 ^ k * down d = sym (mul-one (n * up d)) ∙ v.1 in
    le_of_mul-le-mul_right
    (le_trans l (le_of_eq (ap (λ (z : ℕ). z * down e) q ∙ mul_right_comm (2 ^ k) (down d) (down e)))) (down_pos d)

-- a power of two is a double
power : (k : ℕ) → k ≤ 1023 → HasValue (round binary64 false (2 ^ k) 1) false (2 ^ k) 1
power k h =
    round_exact binary64 false (2 ^ k) 1 1 (k + 1074) (lit< tt) (lit< tt)
    (subst (λ (n : ℕ). n < 2 ^ 2098) (sym (one-mul (2 ^ (k + 1074)))) (pow-lt {i = k + 1074} {j = 2098} (omega arith)))
    (sym (pow-add 2 k 1074) ∙ sym (one-mul (2 ^ (k + 1074))) ∙ sym (mul-one (1 * 2 ^ (k + 1074))))

-- what is rounded from at most 2 ^ k stays so
under_plus : (a c k : ℕ) → 0 < c → k ≤ 1023 → a ≤ 2 ^ k * c → Under k (round binary64 false a c)
under_plus a c k p h l =
    below (round binary64 false a c) (round binary64 false (2 ^ k) 1) k (round_signed false a c) (power k h)
    (round_mono binary64 a c (2 ^ k) 1 p (lit< tt) (le_trans (le_of_eq (mul-one a)) l))

pub under_round : (s : Bool) (a c k : ℕ) → 0 < c → k ≤ 1023 → a ≤ 2 ^ k * c → Under k (round binary64 s a c)
under_round false a c k p h l = under_plus a c k p h l
under_round true a c k p h l = rw (round_flip a c) (under_neg k (round binary64 false a c) (under_plus a c k p h l))

-- ---- the operations

pub under_mul : (i j : ℕ) (x y : Float) → i + j ≤ 1023 → Under i x → Under j y → Under (i + j) (mul binary64 x y)
unfolding Under mul
under_mul i j nan y h u v = elim u [ ]
under_mul i j (inf _) y h u v = elim u [ ]
under_mul i j (fin s m e) nan h u v = elim v [ ]
under_mul i j (fin s m e) (inf _) h u v = elim v [ ]
under_mul i j (fin s m e) (fin t n d) h u v =
    under_round _ (m * up e * (n * up d)) (down e * down d) (i + j) (mul-pos (down_pos e) (down_pos d)) h
    (le_trans (mul-le-mul u v)
    (le_of_eq (mul-mul-mul_comm (2 ^ i) (down e) (2 ^ j) (down d) ∙ ap (λ (z : ℕ). z * (down e * down d)) (sym (pow-add 2 i j)))))

-- two parts of at most p * c each, by a common c
double : (k c : ℕ) → 2 ^ (k + 1) * c ≡ 2 ^ k * c + 2 ^ k * c
double k c = rw (add-one k, pow-suc 2 k) (mul_right_comm (2 ^ k) 2 c ∙ twice (2 ^ k * c))
  where
    twice : (n : ℕ) → n * 2 ≡ n + n
    twice n = omega arith

module _ (k c a b : ℕ) (some : 0 < c) (h : k + 1 ≤ 1023) (l : a ≤ 2 ^ k * c) (m : b ≤ 2 ^ k * c) where
  under_sum : (s t : Bool) → Under (k + 1) (sum binary64 s a t b c)
  unfolding sum
  under_sum s t =
      cond_cases (Under (k + 1)) (beq s t)
      (λ _. under_round s (a + b) c (k + 1) some h (rw (double k c) (omega arith)))
      (λ _. cond_cases (Under (k + 1)) (ltb a b)
      (λ _. under_round t (b - a) c (k + 1) some h (rw (double k c) (omega arith)))
      (λ _. under_round (s && ltb b a) (a - b) c (k + 1) some h (rw (double k c) (omega arith))))

pub under_add : (k : ℕ) (x y : Float) → k + 1 ≤ 1023 → Under k x → Under k y → Under (k + 1) (add binary64 x y)
unfolding Under add
under_add k nan y h u v = elim u [ ]
under_add k (inf _) y h u v = elim u [ ]
under_add k (fin s m e) nan h u v = elim v [ ]
under_add k (fin s m e) (inf _) h u v = elim v [ ]
under_add k (fin s m e) (fin t n d) h u v =
    under_sum k (down e * down d) (m * up e * down d) (n * up d * down e) (mul-pos (down_pos e) (down_pos d)) h
    (le_trans (mul-le-mul_right (down d) u) (le_of_eq (mul_assoc (2 ^ k) (down e) (down d))))
    (le_trans (mul-le-mul_right (down e) v)
    (le_of_eq (mul_assoc (2 ^ k) (down d) (down e) ∙ ap (λ (z : ℕ). 2 ^ k * z) (mul_comm (down d) (down e))))) s t

pub under_int : (z : ℤ) (k : ℕ) → k ≤ 1023 → nat_abs z ≤ 2 ^ k → Under k (of_int binary64 z)
unfolding of_int
under_int (pos n) k h l = under_round false n 1 k (lit< tt) h (le_trans l (le_of_eq (sym (mul-one (2 ^ k)))))
under_int (negsuc n) k h l = under_round true (suc n) 1 k (lit< tt) h (le_trans l (le_of_eq (sym (mul-one (2 ^ k)))))
