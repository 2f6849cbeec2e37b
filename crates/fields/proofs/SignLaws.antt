-- Laws of two's complement: by the first bit, its range, and a signed field's answers.
use mathlib.Core.Path.{◌≡◌, refl, sym, ap, ◌∙◌}
use mathlib.Core.Bool.{false}
use mathlib.Core.List.{List}
use Prim.Native.Nat.{ℕ, zero, suc, ◌-◌, ◌*◌, ◌/◌, ◌^◌, ◌<◌, ◌≤◌}
use native.Mathlib.Nat.{pow-suc, zero-add, le-div_iff_mul-le, div-lt_iff_lt-mul}
use native.Mathlib.Omega.{arith}
use lib.Dec.{ltb}
use lib.IntN.{ℤ, pos, negsuc, ◌-ℤ◌}
use lib.Signed.{mag}
use lib.ListN.{length}
use lib.Pow.{pow_pos}
use borrow.Author.Tests.{lt-ltb, le-ltb, ltb-true, ltb-false}
use Rattle.laws.proofs.Cases.{bool_cases}
use Rattle.laws.specs.Said.{value, free}
use Rattle.std.specs.Prelude.{Result, Ok, Err, IsErr}
use Rattle.std.specs.Result.{IsErrAnd}
use Rattle.fields.specs.Field.{is_width, unsigned_at, said_error}
use Rattle.fields.specs.Sign.{complement_of, complement_at, signed_at}
use Rattle.fields.specs.declared.field.FieldError.{FieldError}
use Rattle.fields.specs.declared.field.FieldError.TheVariants.{Outside, NoWidth}
use Rattle.fields.proofs.BitLaws.{number_lt, Bits-agree}
use Rattle.fields.proofs.PlaceLaws.{inside_same}
use Rattle.fields.proofs.FieldLaws.{width_yes, field_here, field_refused, field_still_free, field_read, field_same, unsigned_read}

-- -1 - n
pub minus_one : (n : ℕ) → negsuc 0 -ℤ pos n ≡ negsuc n
minus_one zero = refl
minus_one (suc n) = ap (λ (k : ℕ). negsuc (suc k)) (zero-add n)

-- a less b, where a is below b
sub_below : (a b : ℕ) → a < b → pos a -ℤ pos b ≡ negsuc (b - suc a)
sub_below a zero h = absurd (omega arith)
sub_below a (suc b) h = simp (lt-ltb a (suc b) h)

pub double : (n : ℕ) → 1 ≤ n → 2 ^ n ≡ 2 ^ (n - 1) * 2
double n h = ap (λ (k : ℕ). 2 ^ k) (one_more n h) ∙ pow-suc 2 (n - 1)
  where
    one_more : (n : ℕ) → 1 ≤ n → n ≡ suc (n - 1)
    one_more n h = omega arith

-- by the first bit
pub complement_low : (n v : ℕ) → v < 2 ^ (n - 1) → pos v ≡ complement_of n v
unfolding complement_of
complement_low n v h = rw (lt-ltb v (2 ^ (n - 1)) h)

pub complement_high : (n v : ℕ) → 1 ≤ n → 2 ^ (n - 1) ≤ v → v < 2 ^ n → negsuc (2 ^ (n - 1) - 1 - (v - 2 ^ (n - 1))) ≡ complement_of n v
unfolding complement_of
complement_high n v one h k =
    rw (le-ltb v (2 ^ (n - 1)) h) (ap negsuc (omega (arith, double n one)) ∙ sym (sub_below v (2 ^ n) k))

-- its range: -2 ^ (n - 1) to 2 ^ (n - 1) - 1
pub complement_range : (n v : ℕ) → 1 ≤ n → v < 2 ^ n → mag (complement_of n v) < 2 ^ (n - 1)
complement_range n v one k =
    bool_cases (ltb v (2 ^ (n - 1)))
    (λ e. let h = ltb-true v (2 ^ (n - 1)) e in rw (← complement_low n v h) h)
    (λ e. let h = ltb-false v (2 ^ (n - 1)) e in rw (← complement_high n v one h k) (omega (arith, pow_pos (n - 1))))

-- the number doesn't fit where more than its first bit is left of it
pub too_wide : (n v : ℕ) → 1 ≤ n → 1 < v / 2 ^ (n - 1) → 2 ^ n ≤ v
too_wide n v one h = omega (arith, double n one, (le-div_iff_mul-le {k = 2 ^ (n - 1)} {x = 2} {y = v} (pow_pos (n - 1))).0 (omega arith))

pub fits : (n v : ℕ) → 1 ≤ n → v / 2 ^ (n - 1) ≤ 1 → v < 2 ^ n
fits n v one h = omega (arith, double n one, (div-lt_iff_lt-mul {k = 2 ^ (n - 1)} {x = v} {y = 2} (pow_pos (n - 1))).0 (omega arith))

-- each case of the answer
pub complement_no_width : (n v : ℕ) → is_width n ≡ false → free ≡ complement_at n v
unfolding complement_at
complement_no_width n v e = rw e

pub complement_too_wide : (n v : ℕ) → 1 ≤ n → n ≤ 64 → 2 ^ n ≤ v → free ≡ complement_at n v
unfolding complement_at
complement_too_wide n v h k l = rw (width_yes n h k, le-ltb v (2 ^ n) l)

pub complement_is : (n v : ℕ) → 1 ≤ n → n ≤ 64 → v < 2 ^ n → value (complement_of n v) ≡ complement_at n v
unfolding complement_at
complement_is n v h k l = rw (width_yes n h k, lt-ltb v (2 ^ n) l)

-- a signed field by what the unsigned reading of it says
module _ (p : List ℕ) (at n : ℕ) where
  pub signed_is : (v : ℕ) → value (pos v) ≡ unsigned_at p at n → value (complement_of n v) ≡ signed_at p at n
  unfolding signed_at
  signed_is v e =
      let r = unsigned_read p at n v e in
      ap (λ (x : ℕ). value (complement_of n x)) r.is ∙ field_here (complement_of n) p at n r.wide r.narrow r.here

  pub signed_error : (error : FieldError) → said_error error ≡ unsigned_at p at n → said_error error ≡ signed_at p at n
  unfolding said_error unsigned_at signed_at
  signed_error Outside e = field_refused pos (complement_of n) p at n e
  signed_error NoWidth e = field_still_free pos (complement_of n) p at n e

-- what `?` returns is the error that it met
pub passed_on : {A : Type 0} {error : FieldError} (r : Result A FieldError) → IsErr r × IsErrAnd r (λ x. x ≡ error) → r ≡ Err error
passed_on (Ok a) h = absurd h.1
passed_on (Err x) h = ap Err h.1

-- a signed value is in the range of its width
pub signed_range : (p : List ℕ) (at n : ℕ) (z : ℤ) → value z ≡ signed_at p at n → mag z < 2 ^ (n - 1)
unfolding signed_at
signed_range p at n z e =
    let r = field_read (complement_of n) p at n z e in
    rw r.is (complement_range n _ r.wide (number_lt p at n))

pub signed_same : (p q : List ℕ) (at n : ℕ) → length p ≡ length q → Bits-agree p q at n → signed_at p at n ≡ signed_at q at n
unfolding signed_at
signed_same p q at n e h = field_same (complement_of n) p q at n (inside_same p q at n e) h
