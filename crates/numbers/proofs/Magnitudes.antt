-- Laws of a run of digits, for the loop that reads it.
use mathlib.Core.Path.{◌≡◌, refl, ap, sym, ◌∙◌}
use mathlib.Core.List.{List, [], ◌∷◌}
use mathlib.Core.Bool.{Bool, true, false}
use Prim.Native.Nat.{ℕ, ◌+◌, ◌*◌, ◌^◌, ◌≤◌, ◌<◌}
use native.Mathlib.Omega.{arith}
use native.Mathlib.Nat.{lt_of_lt_of_le, le-mul_of_pos_right, mul-le-mul_left}
use lib.Arith.{digits_lt}
use lib.Dec.{ltb}
use lib.IntN.{pos, neg_ℤ}
use lib.ListN.{length, get_or, drop, drop_of_length-le}
use borrow.Author.Tests.{lt-ltb, le-ltb, ltb-true}
use Rattle.laws.proofs.Cases.{cond_cases₂}
use Rattle.numbers.specs.Number.{digits, stuck, digit_of, digit_on, after, spelt, meaning, answer_of}
use Rattle.std.specs.Prelude.{Ok, Err}
use Rattle.numbers.specs.declared.NumberError.TheVariants.{NotNumber, Beyond}
use Rattle.numbers.proofs.Spellings.{stuck_stays, spelt_next}
use Rattle.numbers.proofs.Answers.{answered, answer_small, answer_large}
use Rattle.numbers.proofs.Signs.{size_minus}

-- ---- the end of the digits

module _ (base v : ℕ) where
  -- below 2 ^ 60 the value is answered, with its sign
  pub whole_small : v < 2 ^ 60 → answer_of (meaning (digits base false v)) ≡ Ok (pos v)
  unfolding meaning
  whole_small h = answer_small (pos v) h

  pub minus_small : v < 2 ^ 60 → answer_of (meaning (digits base true v)) ≡ Ok (neg_ℤ (pos v))
  unfolding meaning
  minus_small h = answer_small (neg_ℤ (pos v)) (rw (size_minus v) h)

  -- from 2 ^ 60 on only that it is beyond
  pub large : (negative : Bool) → 2 ^ 60 ≤ v → answer_of (meaning (digits base negative v)) ≡ Err Beyond
  unfolding meaning
  large false h = answer_large (pos v) h
  large true h = answer_large (neg_ℤ (pos v)) (rw (size_minus v) h)

  -- what was read doesn't depend on the base any more
  any_base : (negative : Bool) → meaning (digits base negative v) ≡ meaning (digits 10 negative v)
  unfolding meaning
  any_base false = refl
  any_base true = refl

-- ---- one more character

-- a magnitude that is large stays so
grows : {base d : ℕ} (v : ℕ) → 2 ^ 60 ≤ v → d < base → 2 ^ 60 ≤ v * base + d
grows {base} v h k = let p : 0 < base = omega arith in omega (arith, le-mul_of_pos_right v p)

-- a magnitude that isn't large goes on within a word
pub in_word : {base v d : ℕ} → v < 2 ^ 60 → d < base → base ≤ 16 → v * base + d < 2 ^ 64
in_word h k b = lt_of_lt_of_le (digits_lt h k) (mul-le-mul_left (2 ^ 60) b)

module _ (base : ℕ) (negative : Bool) where
  -- from 2 ^ 60 on the answer doesn't depend on the magnitude
  pub alike : (v w : ℕ) (t : List ℕ) → 2 ^ 60 ≤ v → 2 ^ 60 ≤ w → answered (digits base negative v) t ≡ answered (digits base negative w) t
  unfolding spelt after digit_on
  alike v w [] h k = large base v negative h ∙ sym (large base w negative k)
  alike v w (c ∷ t) h k =
      cond_cases₂ (λ x y. answer_of (meaning (spelt x t)) ≡ answer_of (meaning (spelt y t))) (ltb (digit_of c) base)
      (λ e. alike (v * base + digit_of c) (w * base + digit_of c) t (grows v h (ltb-true _ _ e)) (grows w k (ltb-true _ _ e)))
      (λ e. refl)

  -- a character that is a digit of the base, and one that isn't
  taken : (v c : ℕ) → digit_of c < base → after (digits base negative v) c ≡ digits base negative (v * base + digit_of c)
  unfolding after digit_on
  taken v c h = rw (lt-ltb (digit_of c) base h)

  refused : (v c : ℕ) → base ≤ digit_of c → after (digits base negative v) c ≡ stuck
  unfolding after digit_on
  refused v c h = rw (le-ltb (digit_of c) base h)

  module _ (v : ℕ) (t : List ℕ) (i : ℕ) where
    -- no character is left
    pub digit_end : length t ≤ i → answered (digits base negative v) (drop i t) ≡ answer_of (meaning (digits 10 negative v))
    unfolding spelt
    digit_end h = rw (drop_of_length-le t h) (ap answer_of (any_base base v negative))

    -- a character that is no digit
    pub digit_none : i < length t → base ≤ digit_of (get_or t i 0) → answered (digits base negative v) (drop i t) ≡ Err NotNumber
    unfolding answer_of meaning
    digit_none h k = rw (spelt_next (digits base negative v) t i h, refused v (get_or t i 0) k, stuck_stays (drop (i + 1) t))

    -- a digit
    pub digit_more : i < length t → digit_of (get_or t i 0) < base
        → answered (digits base negative v) (drop i t) ≡ answered (digits base negative (v * base + digit_of (get_or t i 0))) (drop (i + 1) t)
    digit_more h k = rw (spelt_next (digits base negative v) t i h, taken v (get_or t i 0) k)

    -- a digit of a magnitude that is large already
    pub digit_large : i < length t → digit_of (get_or t i 0) < base → 2 ^ 60 ≤ v
        → answered (digits base negative v) (drop i t) ≡ answered (digits base negative v) (drop (i + 1) t)
    digit_large h k l = digit_more h k ∙ alike _ v (drop (i + 1) t) (grows v l k) l
