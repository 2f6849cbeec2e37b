-- Numbers of digits: read from the front by a loop, and the digits read back.
use mathlib.Core.Path.{◌≡◌, refl, sym, ap, ap₂, ◌∙◌}
use mathlib.Core.List.{List, [], ◌∷◌, ◌++◌}
use Prim.Native.Nat.{ℕ, zero, suc, ◌+◌, ◌*◌, ◌/◌, ◌%◌, ◌^◌, ◌≤◌, ◌<◌, zero-le}
use native.Mathlib.Omega.{arith}
use native.Mathlib.Nat.{lt_of_lt_of_le, pow-le-pow_right, pow-zero, pow-suc, div-one, div-div-eq-div-mul, div-lt_iff_lt-mul}
use native.Mathlib.Numerals.{add-one}
use lib.Arith.{digits_lt, digits_div, digits_mod}
use lib.ListN.{length, get_or, take, drop, drop_of_length-le}
use Rattle.laws.proofs.Lists.{split}
use Rattle.key_symbols.specs.Keyed.{number_from, digits_number}
use Rattle.key_symbols.specs.Bounded.{Digits}

module _ (base before : ℕ) (s : List ℕ) (i : ℕ) where
  pub number_more : i < length s → number_from base before (drop i s) ≡ number_from base (before * base + get_or s i 0) (drop (i + 1) s)
  unfolding number_from
  number_more h = rw (split s i 0 h)

  pub number_end : length s ≤ i → number_from base before (drop i s) ≡ before
  unfolding number_from
  number_end h = rw (drop_of_length-le s h)

-- one digit more
pub number_room : {base n d : ℕ} (i : ℕ) → n < base ^ i → d < base → n * base + d < base ^ (i + 1)
number_room i h k = rw (add-one i, pow-suc) (digits_lt h k)

-- one byte more of at most eight
pub bytes_room : {n d i : ℕ} → n < 256 ^ i → d < 256 → i < 8 → n * 256 + d < 2 ^ 64
bytes_room {i = i} h k j =
    let m : i + 1 ≤ 8 = omega arith in
    lt_of_lt_of_le (number_room i h k) (pow-le-pow_right (omega arith) m)

-- the last n digits of a number
abbrev pub digits_of : ℕ → ℕ → ℕ → List ℕ
digits_of base zero m = []
digits_of base (suc n) m = m / base ^ n % base ∷ digits_of base n m

module _ (base : ℕ) where
  -- what stands before the digits is read back
  before_back : (before : ℕ) (ds : List ℕ) → Digits base ds → number_from base before ds / base ^ length ds ≡ before
  unfolding number_from
  before_back before [] h = rw pow-zero (div-one before)
  before_back before (d ∷ ds) h =
      rw pow-suc (sym (div-div-eq-div-mul (number_from base (before * base + d) ds) (base ^ length ds) base))
      ∙ ap (λ (m : ℕ). m / base) (before_back (before * base + d) ds h.1) ∙ digits_div before h.0

  -- the digits are read back
  from_back : (before : ℕ) (ds : List ℕ) → Digits base ds → digits_of base (length ds) (number_from base before ds) ≡ ds
  unfolding number_from
  from_back before [] h = refl
  from_back before (d ∷ ds) h =
      ap₂ (λ (x : ℕ) (xs : List ℕ). x ∷ xs)
      (ap (λ (m : ℕ). m % base) (before_back (before * base + d) ds h.1) ∙ digits_mod before h.0)
      (from_back (before * base + d) ds h.1)

  pub digits_back : (n : ℕ) (ds : List ℕ) → length ds ≡ n → Digits base ds → digits_of base n (digits_number base ds) ≡ ds
  unfolding digits_number
  digits_back n ds e h = rw (← e) (from_back 0 ds h)

  pub digits_take : (n : ℕ) (ds : List ℕ) → Digits base ds → Digits base (take n ds)
  digits_take zero ds h = tt
  digits_take (suc n) [] h = tt
  digits_take (suc n) (d ∷ ds) h = (h.0, digits_take n ds h.1)

  pub digits_drop : (n : ℕ) (ds : List ℕ) → Digits base ds → Digits base (drop n ds)
  digits_drop zero ds h = h
  digits_drop (suc n) [] h = tt
  digits_drop (suc n) (d ∷ ds) h = digits_drop n ds h.1

  pub digits_append : (cs ds : List ℕ) → Digits base cs → Digits base ds → Digits base (cs ++ ds)
  digits_append [] ds g h = h
  digits_append (c ∷ cs) ds g h = (g.0, digits_append cs ds g.1 h)

  pub digits_all : (ds : List ℕ) → ((i : ℕ) → get_or ds i 0 < base) → Digits base ds
  digits_all [] h = tt
  digits_all (d ∷ ds) h = (h 0, digits_all ds (λ i. h (suc i)))

-- the number of n bytes is below 256 ^ n
pub number_below : (ds : List ℕ) → Digits 256 ds → digits_number 256 ds < 256 ^ length ds
unfolding digits_number
number_below ds h =
    let p : 0 < 256 ^ length ds = lt_of_lt_of_le {m = 256 ^ 0} (omega arith) (pow-le-pow_right (omega arith) zero-le) in
    let q : number_from 256 0 ds / 256 ^ length ds < 1 = omega (arith, before_back 256 0 ds h) in
    omega (arith, (div-lt_iff_lt-mul p).0 q)
