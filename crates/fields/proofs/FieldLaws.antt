-- Laws of a field: each case of its answer, what an answer tells of the field, and what it depends on.
use mathlib.Core.Path.{◌≡◌, refl}
use mathlib.Core.Bool.{Bool, true, false, cond, ◌&&◌}
use mathlib.Core.List.{List}
use Prim.Native.Nat.{ℕ, ◌+◌, ◌*◌, ◌^◌, ◌<◌, ◌≤◌}
use native.Mathlib.Omega.{arith}
use lib.Dec.{leb}
use lib.IntN.{ℤ, pos}
use lib.ListN.{length}
use borrow.Author.Tests.{le-leb, lt-leb, leb-true}
use Rattle.laws.proofs.Cases.{and_both}
use Rattle.fields.specs.Bits.{number_at}
use Rattle.fields.specs.Place.{inside}
use Rattle.laws.specs.Said.{value, refused, free}
use Rattle.fields.specs.Field.{is_width, field_at, unsigned_at}
use Rattle.fields.proofs.BitLaws.{number_lt, number_same, Bits-agree, Bytes-agree, bits_agree}
use Rattle.fields.proofs.PlaceLaws.{inside_yes, inside_no, inside_same}

pub width_yes : (n : ℕ) → 1 ≤ n → n ≤ 64 → is_width n ≡ true
unfolding is_width
width_yes n h k = and_both (le-leb 1 n h) (le-leb n 64 k)

pub width_none : (n : ℕ) → n ≡ 0 → is_width n ≡ false
unfolding is_width
width_none n e = rw e

pub width_over : (n : ℕ) → 64 < n → is_width n ≡ false
unfolding is_width
width_over n h = rw (le-leb 1 n (omega arith), lt-leb n 64 h)

module _ (meant : ℕ → ℤ) (p : List ℕ) (at n : ℕ) where
  -- each case of the answer
  pub field_free : is_width n ≡ false → free ≡ field_at meant p at n
  unfolding field_at
  field_free e = rw e

  pub field_outside : 1 ≤ n → n ≤ 64 → length p * 8 < at + n → refused 28 ≡ field_at meant p at n
  unfolding field_at
  field_outside h k l = rw (width_yes n h k, inside_no p at n h l)

  pub field_here : 1 ≤ n → n ≤ 64 → inside p at n ≡ true → value (meant (number_at p at n)) ≡ field_at meant p at n
  unfolding field_at
  field_here h k e = rw (width_yes n h k, e)

  pub field_value : 1 ≤ n → n ≤ 64 → at + n ≤ length p * 8 → value (meant (number_at p at n)) ≡ field_at meant p at n
  field_value h k l = field_here h k (inside_yes p at n l)

-- a field that has no value has none whatever its number means
pub field_refused : (meant other : ℕ → ℤ) (p : List ℕ) (at n : ℕ) → refused 28 ≡ field_at meant p at n → refused 28 ≡ field_at other p at n
unfolding field_at
field_refused meant other p at n = by (is_width n) (inside p at n)
  where
    by : (a b : Bool) → refused 28 ≡ cond a (cond b (value (meant (number_at p at n))) (refused 28)) free
        → refused 28 ≡ cond a (cond b (value (other (number_at p at n))) (refused 28)) free
    by true true e = absurd (let z : ◌≡◌ {A = ℕ} 0 1 = cc in omega arith)
    by true false e = refl
    by false b e = e

pub field_still_free : (meant other : ℕ → ℤ) (p : List ℕ) (at n : ℕ) → free ≡ field_at meant p at n → free ≡ field_at other p at n
unfolding field_at
field_still_free meant other p at n = by (is_width n) (inside p at n)
  where
    by : (a b : Bool) → free ≡ cond a (cond b (value (meant (number_at p at n))) (refused 28)) free
        → free ≡ cond a (cond b (value (other (number_at p at n))) (refused 28)) free
    by true true e = absurd (let z : ◌≡◌ {A = ℕ} 0 1 = cc in omega arith)
    by true false e = e
    by false b e = refl

-- what a field with a value is: its width is a field's, all of it is inside, and the value is that of its number
pub record Read (meant : ℕ → ℤ) (p : List ℕ) (at n : ℕ) (z : ℤ) : Type 0 where
  pub wide : 1 ≤ n
  pub narrow : n ≤ 64
  pub here : inside p at n ≡ true
  pub is : z ≡ meant (number_at p at n)

pub field_read : (meant : ℕ → ℤ) (p : List ℕ) (at n : ℕ) (z : ℤ) → value z ≡ field_at meant p at n → Read meant p at n z
unfolding field_at is_width
field_read meant p at n z e = by (leb 1 n) (leb n 64) (inside p at n) refl refl refl e
  where
    by : (a b c : Bool) → leb 1 n ≡ a → leb n 64 ≡ b → inside p at n ≡ c
        → value z ≡ cond (a && b) (cond c (value (meant (number_at p at n))) (refused 28)) free → Read meant p at n z
    by true true true f g h e = record { wide = leb-true 1 n f; narrow = leb-true n 64 g; here = h; is = cc }
    by true true false f g h e = absurd (let z : ◌≡◌ {A = ℕ} 0 1 = cc in omega arith)
    by true false c f g h e = absurd (let z : ◌≡◌ {A = ℕ} 0 1 = cc in omega arith)
    by false b c f g h e = absurd (let z : ◌≡◌ {A = ℕ} 0 1 = cc in omega arith)

-- an unsigned value is below 2 to the width
pub record Unsigned-read (p : List ℕ) (at n v : ℕ) : Type 0 where
  pub wide : 1 ≤ n
  pub narrow : n ≤ 64
  pub here : inside p at n ≡ true
  pub is : v ≡ number_at p at n
  pub below : v < 2 ^ n

pub unsigned_read : (p : List ℕ) (at n v : ℕ) → value (pos v) ≡ unsigned_at p at n → Unsigned-read p at n v
unfolding unsigned_at
unsigned_read p at n v e =
    let r = field_read pos p at n (pos v) e in
    let i : v ≡ number_at p at n = cc r.is in
    record { wide = r.wide; narrow = r.narrow; here = r.here; is = i; below = rw i (number_lt p at n) }

-- a field depends on its own bits alone, and on whether it is inside
pub field_same : (meant : ℕ → ℤ) (p q : List ℕ) (at n : ℕ) → inside p at n ≡ inside q at n → Bits-agree p q at n → field_at meant p at n ≡ field_at meant q at n
unfolding field_at
field_same meant p q at n e h = rw (e, number_same p q at n h)

-- so in as many bytes it depends on those that hold it
pub field_same_bytes : (meant : ℕ → ℤ) (p q : List ℕ) (at n : ℕ) → length p ≡ length q → Bytes-agree p q at n → field_at meant p at n ≡ field_at meant q at n
field_same_bytes meant p q at n e h = field_same meant p q at n (inside_same p q at n e) (bits_agree p q at n h)

pub unsigned_same : (p q : List ℕ) (at n : ℕ) → length p ≡ length q → Bits-agree p q at n → unsigned_at p at n ≡ unsigned_at q at n
unfolding unsigned_at
unsigned_same p q at n e h = field_same pos p q at n (inside_same p q at n e) h
