-- Laws of the number that a run of bits makes, over the width: its bound, runs one after the other, a run within one
-- byte, and what it depends on.
use mathlib.Core.Path.{◌≡◌, refl, sym, ap, ap₂, ◌∙◌, subst}
use mathlib.Core.List.{List}
use Prim.Native.Nat.{ℕ, zero, suc, ◌+◌, ◌-◌, ◌*◌, ◌/◌, ◌%◌, ◌^◌, ◌<◌, ◌≤◌}
use native.Mathlib.Nat.{add-zero, add-suc, add_assoc, mul-one, mul_assoc, pow-zero, pow-suc, mod-one, div-one, one-mul, mod-eq_of_lt, lt_of_lt_of_le}
use native.Mathlib.Numerals.{add-one}
use native.Mathlib.Omega.{arith}
use lib.ListN.{get_or}
use lib.Pow.{pow_pos, pow-lt, pow_mono, shr-shr, mod-pow-add, shl_exact}
use Rattle.fields.specs.Bits.{bit_at, number_at}

pub bit_lt : (p : List ℕ) (k : ℕ) → bit_at p k < 2
unfolding bit_at
bit_lt p k = omega arith

-- the number is below 2 to the width
pub number_lt : (p : List ℕ) (at n : ℕ) → number_at p at n < 2 ^ n
unfolding number_at
number_lt p at zero = pow_pos zero
number_lt p at (suc n) = omega (arith, number_lt p at n, bit_lt p (at + n), pow-suc 2 n)

-- n bits, and then m bits
pub number_add : (p : List ℕ) (at n m : ℕ) → number_at p at (n + m) ≡ number_at p at n * 2 ^ m + number_at p (at + n) m
unfolding number_at
number_add p at n zero = simp (add-zero, pow-zero, mul-one)
number_add p at n (suc m) =
    rw (add-suc)
    (omega (
      arith,
      number_add p at n m,
      ap (bit_at p) (add_assoc at n m),
      ap (λ (x : ℕ). number_at p at n * x) (pow-suc 2 m),
      mul_assoc (number_at p at n)
          (2 ^ m) 2,
    ))

-- m bits of the byte k, after its first l
pub number_byte : (p : List ℕ) (k l m : ℕ) → l + m ≤ 8 → number_at p (k * 8 + l) m ≡ get_or p k 0 / 2 ^ (8 - (l + m)) % 2 ^ m
unfolding number_at bit_at
number_byte p k l zero h = sym (mod-one (get_or p k 0 / 2 ^ (8 - (l + zero))))
number_byte p k l (suc m) h =
    ap₂ (λ (x y : ℕ). x * 2 + y)
    (number_byte p k l m (omega arith) ∙ ap (λ (x : ℕ). get_or p k 0 / 2 ^ x % 2 ^ m) one_more ∙ ap (λ (x : ℕ). x % 2 ^ m) (sym (shr-shr (get_or p k 0) e 1)))
    (ap₂ (λ (x y : ℕ). get_or p x 0 / 2 ^ y % 2) the_byte the_bit)
    ∙ sym (mod-pow-add c m 1)
    ∙ ap (λ (x : ℕ). c % 2 ^ x) (add-one m)
  where
    e : ℕ
    e = 8 - (l + suc m)

    c : ℕ
    c = get_or p k 0 / 2 ^ e

    one_more : 8 - (l + m) ≡ e + 1
    one_more = omega arith

    the_byte : (k * 8 + l + m) / 8 ≡ k
    the_byte = omega arith

    the_bit : 7 - (k * 8 + l + m) % 8 ≡ e
    the_bit = omega arith

-- eight bits from the first of a byte are that byte
pub number_whole_byte : (p : List ℕ) (k : ℕ) → get_or p k 0 < 256 → number_at p (k * 8) 8 ≡ get_or p k 0
number_whole_byte p k h = ap (λ (x : ℕ). number_at p x 8) (sym (add-zero (k * 8))) ∙ number_byte p k 0 8 (omega arith) ∙ rw (div-one) (mod-eq_of_lt h)

-- a 1 shifted within a word loses nothing
pub one_shl : (t : ℕ) → t < 64 → (1 * 2 ^ t) % 2 ^ 64 ≡ 2 ^ t
one_shl t h = mod-eq_of_lt (omega (arith, pow-lt h)) ∙ one-mul (2 ^ t)

-- n bits in a word, shifted to make room for t more, which are part of the byte k
pub number_more : (p : List ℕ) (at n t k l acc part : ℕ) → at + n ≡ k * 8 + l → l + t ≤ 8 → n + t ≤ 64
    → acc ≡ number_at p at n → part ≡ get_or p k 0 / 2 ^ (8 - (l + t)) % 2 ^ t
    → (acc * 2 ^ t) % 2 ^ 64 + part ≡ number_at p at (n + t)
number_more p at n t k l acc part place within room a b =
    ap₂ (λ (x y : ℕ). x + y)
    (shl_exact {a = acc} n t 64 (subst (λ (x : ℕ). x < 2 ^ n) (sym a) (number_lt p at n)) room ∙ ap (λ (x : ℕ). x * 2 ^ t) a)
    (b ∙ sym (number_byte p k l t within) ∙ ap (λ (x : ℕ). number_at p x t) (sym place))
    ∙ sym (number_add p at n t)

pub number_fits : (p : List ℕ) (at n : ℕ) → n ≤ 64 → number_at p at n < 2 ^ 64
number_fits p at n h = lt_of_lt_of_le (number_lt p at n) (pow_mono h)

-- the bytes that a bit lies in decide it
pub bit_of_byte : (p q : List ℕ) (k : ℕ) → get_or p (k / 8) 0 ≡ get_or q (k / 8) 0 → bit_at p k ≡ bit_at q k
unfolding bit_at
bit_of_byte p q k e = ap (λ (b : ℕ). b / 2 ^ (7 - k % 8) % 2) e

-- two lists of bytes agree on the n bits from bit `at`
unfoldable pub Bits-agree : List ℕ → List ℕ → ℕ → ℕ → Type 0
Bits-agree p q at n = (k : ℕ) → k < n → bit_at p (at + k) ≡ bit_at q (at + k)

-- they agree on the bytes that hold these bits
unfoldable pub Bytes-agree : List ℕ → List ℕ → ℕ → ℕ → Type 0
Bytes-agree p q at n = (b : ℕ) → at / 8 ≤ b → b * 8 < at + n → get_or p b 0 ≡ get_or q b 0

pub bits_agree : (p q : List ℕ) (at n : ℕ) → Bytes-agree p q at n → Bits-agree p q at n
unfolding Bits-agree Bytes-agree
bits_agree p q at n h k l = bit_of_byte p q (at + k) (h ((at + k) / 8) (omega arith) (omega arith))

-- the number depends on its bits alone
pub number_same : (p q : List ℕ) (at n : ℕ) → Bits-agree p q at n → number_at p at n ≡ number_at q at n
unfolding number_at Bits-agree
number_same p q at zero h = refl
number_same p q at (suc n) h = ap₂ (λ (x y : ℕ). x * 2 + y) (number_same p q at n (λ k l. h k (omega arith))) (h n (omega arith))

-- two bytes with the same eight bits are one
pub byte_same : (p q : List ℕ) (k : ℕ) → get_or p k 0 < 256 → get_or q k 0 < 256 → Bits-agree p q (k * 8) 8 → get_or p k 0 ≡ get_or q k 0
byte_same p q k h l e = sym (number_whole_byte p k h) ∙ number_same p q (k * 8) 8 e ∙ number_whole_byte q k l
