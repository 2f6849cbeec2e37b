-- The bits of the definition are exactly the real number, and no other bits are.
use mathlib.Core.Path.{◌≡◌, refl, sym, ap, ◌∙◌, subst}
use mathlib.Core.Bool.{Bool, true, false, cond, not}
use Prim.Native.Nat.{ℕ, suc, ◌+◌, ◌-◌, ◌*◌, ◌/◌, ◌%◌, ◌^◌, ◌≤◌, ◌<◌}
use native.Mathlib.Nat.{mul-div_cancel, lt_of_lt_of_le}
use native.Mathlib.Omega.{arith}
use lib.Dec.{T, ltb}
use lib.IntN.{pos, nat_abs, ◌+ℤ◌}
use lib.Pow.{pow_pos, pow_mono, shl_lt}
use lib.Ieee.{Float, fin, inf, nan, binary64, up, down, size, round, is_nan, of_bits, to_bits}
use lib.Ieee.Exact.{HasValue, round_exact}
use lib.Ieee.Fits.{round-fits, down_pos}
use lib.Ieee.Bits.{of_bits-to_bits, to_bits-of_bits}
use borrow.Author.Tests.{ltb-true, ltb-false}
use Rattle.laws.proofs.Cases.{bool_cases}
use Rattle.fields.specs.Sign.{complement_of}
use Rattle.fields.proofs.SignLaws.{double, complement_low, complement_high}
use Rattle.mil_reals.specs.Real.{MilReal, power_of, real_of, is_negative, ExactDouble, double_bits, mil_bits, bits32, bits48}
use Rattle.mil_reals.proofs.Powers.{up_power, down_power, whole_power, same_size}

-- the sign and the size of a real number, as those of a double
abbrev Valued : Float → MilReal → Type 0
Valued v r = HasValue v (is_negative r.mantissa) (nat_abs r.mantissa * up r.power) (down r.power)

exactly_from : (r : MilReal) (bits : ℕ) (v : Float) → of_bits binary64 bits ≡ v → Valued v r → ExactDouble r bits
exactly_from r bits nan q h = elim h [ ]
exactly_from r bits (inf _) q h = elim h [ ]
exactly_from r bits (fin s m e) q h = record { significand = m; exponent = e; double = q ∙ ap (λ (s : Bool). fin s m e) h.0; equal = h.1 }

to_value : (r : MilReal) (bits : ℕ) → ExactDouble r bits → Valued (of_bits binary64 bits) r
to_value r bits x = rw x.double (refl, x.equal)

-- bits by the size in units of the least double
shape : Bool → ℕ → ℕ
shape s a = cond s (2 ^ 63) 0 + (size a - 53) * 2 ^ 52 + a / 2 ^ (size a - 53)

by_value : (v : Float) (s : Bool) (a : ℕ) → HasValue v s a (2 ^ 1074) → to_bits binary64 v ≡ shape s a
unfolding to_bits shape
by_value nan s a h = elim h [ ]
by_value (inf _) s a h = elim h [ ]
by_value (fin t m k) s a h =
    let n : m * up k * 2 ^ 1074 / down k ≡ a = ap (λ (x : ℕ). x / down k) h.1 ∙ mul-div_cancel a (down_pos k) in
    rw (h.0, n)

finite : (v : Float) (s : Bool) (a c : ℕ) → HasValue v s a c → T (not (is_nan v))
unfolding is_nan
finite nan s a c h = elim h [ ]
finite (inf _) s a c h = elim h [ ]
finite (fin t m k) s a c h = tt

module _ (r : MilReal) (n : ℕ) (e : r.power +ℤ pos 1074 ≡ pos n) where
  abbrev sign : Bool
  sign = is_negative r.mantissa

  abbrev magnitude : ℕ
  magnitude = nat_abs r.mantissa

  -- from the power to units of the least double, and back
  in_units : (v : Float) → Valued v r → HasValue v sign (magnitude * 2 ^ n) (2 ^ 1074)
  in_units v h =
      same_size v sign (magnitude * up r.power) (down r.power) (magnitude * 2 ^ n) (2 ^ 1074) (down_pos r.power)
      (sym (whole_power magnitude r.power n e)) h

  in_powers : (v : Float) → HasValue v sign (magnitude * 2 ^ n) (2 ^ 1074) → Valued v r
  in_powers v h =
      same_size v sign (magnitude * 2 ^ n) (2 ^ 1074) (magnitude * up r.power) (down r.power) (pow_pos 1074)
      (whole_power magnitude r.power n e) h

  module _ (small : magnitude < 2 ^ 53) (fine : n < 2000) where
    abbrev rounded : Float
    rounded = round binary64 sign (magnitude * up r.power) (down r.power)

    -- nothing is rounded
    exact_round : Valued rounded r
    exact_round =
        round_exact binary64 sign (magnitude * up r.power) (down r.power) magnitude n (down_pos r.power) small
        (lt_of_lt_of_le (shl_lt {a = magnitude} 53 n small) (pow_mono {i = 53 + n} {j = 2098} (omega arith)))
        (whole_power magnitude r.power n e)

    exact_bits : ExactDouble r (double_bits r)
    unfolding double_bits
    exact_bits =
        exactly_from r _ rounded (of_bits-to_bits binary64 rounded (round-fits binary64 sign (magnitude * up r.power) (down r.power))) exact_round

    only_value : (b : ℕ) → b < 2 ^ 64 → Valued (of_bits binary64 b) r → b ≡ double_bits r
    unfolding double_bits
    only_value b h x =
        sym (to_bits-of_bits binary64 b h (finite (of_bits binary64 b) sign _ _ x))
        ∙ by_value (of_bits binary64 b) sign (magnitude * 2 ^ n) (in_units (of_bits binary64 b) x)
        ∙ sym (by_value rounded sign (magnitude * 2 ^ n) (in_units rounded exact_round))

-- a mantissa of up to 53 bits and an exponent of 8
module _ (width m x : ℕ) (one : 1 ≤ width) (few : width ≤ 53) (fits : m < 2 ^ width) (byte : x < 256) where
  small_mantissa : nat_abs (complement_of width m) < 2 ^ 53
  small_mantissa =
      let k : 2 ^ width ≤ 2 ^ 53 = pow_mono few in
      bool_cases (ltb m (2 ^ (width - 1)))
      (λ t. rw (← complement_low width m (ltb-true m (2 ^ (width - 1)) t)) (omega arith))
      (λ t. let h = ltb-false m (2 ^ (width - 1)) t in rw (← complement_high width m one h fits) (omega (arith, double width one, pow_pos (width - 1))))

  -- the power, counted from -1074
  record Counted : Type 0 where
    least : ℕ
    is : power_of width x +ℤ pos 1074 ≡ pos least
    fine : least < 2000

  counted : Counted
  counted =
      bool_cases (ltb x 128)
      (λ t. record { least = 1075 - width + x; is = up_power width x one few (ltb-true x 128 t); fine = omega arith })
      (λ t. record { least = 819 - width + x; is = down_power width x one few (ltb-false x 128 t) byte; fine = omega arith })

  -- 02, P6: "Both fit a double exactly", once over the mantissa's width
  pub mil_exact : ExactDouble (real_of width m x) (mil_bits width m x)
  unfolding mil_bits
  mil_exact = let c = counted in exact_bits (real_of width m x) c.least c.is small_mantissa c.fine

  only : (b : ℕ) → b < 2 ^ 64 → Valued (of_bits binary64 b) (real_of width m x) → b ≡ mil_bits width m x
  unfolding mil_bits
  only b h v = let c = counted in only_value (real_of width m x) c.least c.is small_mantissa c.fine b h v

  -- and no other bits have its value
  pub mil_only : (b : ℕ) → b < 2 ^ 64 → ExactDouble (real_of width m x) b → b ≡ mil_bits width m x
  mil_only b h v = only b h (to_value (real_of width m x) b v)

  -- the three answers, in units of the least double
  module _ (n : ℕ) (e : power_of width x +ℤ pos 1074 ≡ pos n) (b : ℕ) (h : b < 2 ^ 64) where
    pub plus : m < 2 ^ (width - 1) → HasValue (of_bits binary64 b) false (m * 2 ^ n) (2 ^ 1074) → b ≡ mil_bits width m x
    plus l v =
        only b h
        (in_powers (real_of width m x) n e (of_bits binary64 b)
        (rw (← complement_low width m l) v))

    pub minus : 2 ^ (width - 1) ≤ m → HasValue (of_bits binary64 b) true ((2 ^ (width - 1) - (m - 2 ^ (width - 1))) * 2 ^ n) (2 ^ 1074)
        → b ≡ mil_bits width m x
    minus l v =
        let s : 2 ^ (width - 1) - (m - 2 ^ (width - 1)) ≡ suc (2 ^ (width - 1) - 1 - (m - 2 ^ (width - 1))) = omega (arith, double width one) in
        only b h
        (in_powers (real_of width m x) n e (of_bits binary64 b)
        (rw (← complement_high width m one l fits) (subst (λ (a : ℕ). HasValue (of_bits binary64 b) true (a * 2 ^ n) (2 ^ 1074)) s v)))

-- 02, P6: "Mantissa 0 is plus zero", whatever the exponent
pub plus_zero_lem : (width x : ℕ) → 1 ≤ width → width ≤ 53 → x < 256 → 0 ≡ mil_bits width 0 x
unfolding of_bits
plus_zero_lem width x one few byte =
    mil_only width 0 x one few (pow_pos width) byte 0 (omega arith)
    (rw (← complement_low width 0 (pow_pos (width - 1))) (record { significand = 0; exponent = pos 0; double = refl; equal = omega arith }))

-- of every field: what is answered is exactly the real number that it holds
pub exact32 : (v : ℕ) → ExactDouble (real_of 24 (v / 2 ^ 8 % 2 ^ 24) (v % 2 ^ 8)) (bits32 v)
unfolding bits32
exact32 v = mil_exact 24 (v / 2 ^ 8 % 2 ^ 24) (v % 2 ^ 8) (omega arith) (omega arith) (omega arith) (omega arith)

pub exact48 : (v : ℕ) → ExactDouble (real_of 40 (v / 2 ^ 24 % 2 ^ 24 * 2 ^ 16 + v % 2 ^ 16) (v / 2 ^ 16 % 2 ^ 8)) (bits48 v)
unfolding bits48
exact48 v =
    mil_exact 40 (v / 2 ^ 24 % 2 ^ 24 * 2 ^ 16 + v % 2 ^ 16) (v / 2 ^ 16 % 2 ^ 8) (omega arith) (omega arith) (omega arith) (omega arith)
