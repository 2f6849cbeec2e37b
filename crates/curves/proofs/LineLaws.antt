-- Laws of the line: its numbers' ranges, results far off, and each case of the answer.
use mathlib.Core.Path.{◌≡◌, refl, sym, ap, ◌∙◌}
use mathlib.Core.Bool.{Bool, true, false, cond, ◌&&◌}
use Prim.Native.Nat.{ℕ, zero, suc, ◌+◌, ◌-◌, ◌*◌, ◌^◌, ◌<◌, ◌≤◌}
use native.Mathlib.Nat.{mul-le-mul, zero-div}
use native.Mathlib.Omega.{arith}
use lib.Dec.{leb}
use lib.IntN.{ℤ, pos, negsuc, nat_abs, ◌+ℤ◌, ◌-ℤ◌, ◌*ℤ◌, +ℤ_invr, +ℤ_idr, +ℤ_comm, *ℤ-zero, -ℤ-+ℤ_cancel}
use lib.Signed.{lt_z}
use mir.Syntax.{w64}
use mir.Val.{SFits}
use borrow.Author.Tests.{lt-ltb, le-ltb, lt-leb, leb-true}
use Rattle.laws.specs.Said.{value, refused, free}
use Rattle.laws.proofs.Cases.{and_left, and_right}
use Rattle.laws.proofs.Words.{fits_size}
use Rattle.curves.specs.Floor.{floor_div}
use Rattle.curves.specs.Line.{is_between, is_coordinate, is_point, is_segment, is_raw, height_at, result_of, line_at}
use Rattle.curves.specs.declared.line.Point.{Point}
use Rattle.curves.proofs.IntLaws.{size_add, size_minus, apart, distance}
use Rattle.curves.proofs.FloorLaws.{floor_exact}

-- the magnitude of what lies in a range about 0
pub within_size : (k a b : ℕ) (z : ℤ) → suc a ≤ k → b ≤ k → is_between (negsuc a) (pos b) z ≡ true → nat_abs z ≤ k
unfolding is_between
within_size k a b (pos n) h l e = omega (arith, leb-true n b (and_right true (leb n b) e))
within_size k a b (negsuc n) h l e = omega (arith, leb-true n a (and_left (leb n a) true e))

coordinate_size : (z : ℤ) → is_coordinate z ≡ true → nat_abs z ≤ 2 ^ 30
unfolding is_coordinate
coordinate_size z e = within_size (2 ^ 30) 1073741823 1073741823 z (omega arith) (omega arith) e

-- the sizes of a line's numbers
pub record Near (p q : Point) (x : ℤ) : Type 0 where
  pub px : nat_abs p.x ≤ 2 ^ 30
  pub py : nat_abs p.y ≤ 2 ^ 30
  pub qx : nat_abs q.x ≤ 2 ^ 30
  pub qy : nat_abs q.y ≤ 2 ^ 30
  pub at : nat_abs x ≤ 2 ^ 32
  pub rises : lt_z p.x q.x ≡ true

pub near : (p q : Point) (x : ℤ) → is_segment p q ≡ true → is_raw x ≡ true → Near p q x
unfolding is_segment is_point is_raw
near p q x e h =
    let rest = and_right (is_point p) (is_point q && lt_z p.x q.x) e in
    let a = and_left (is_point p) (is_point q && lt_z p.x q.x) e in
    let b = and_left (is_point q) (lt_z p.x q.x) rest in
    record {
      px = coordinate_size p.x (and_left (is_coordinate p.x) (is_coordinate p.y) a);
      py = coordinate_size p.y (and_right (is_coordinate p.x) (is_coordinate p.y) a);
      qx = coordinate_size q.x (and_left (is_coordinate q.x) (is_coordinate q.y) b);
      qy = coordinate_size q.y (and_right (is_coordinate q.x) (is_coordinate q.y) b);
      at = within_size (2 ^ 32) 2147483647 4294967295 x (omega arith) (omega arith) h;
      rises = and_right (is_point q) (lt_z p.x q.x) rest;
    }

-- the product of a rise and a distance fits a word
pub product_fits : (a b : ℕ) → a ≤ 2 ^ 31 → b ≤ 2 ^ 32 + 2 ^ 30 → a * b ≤ 2 ^ 63 + 2 ^ 61
product_fits a b h k = mul-le-mul h k

-- a result that is out of the range
out : (y : ℤ) → is_between (negsuc 2147483647) (pos 2147483647) y ≡ false → refused 31 ≡ result_of y
unfolding result_of
out y e = rw e

pub far_above : (y : ℤ) (n : ℕ) → nat_abs y ≤ 2 ^ 30 → 2 ^ 32 ≤ n → refused 31 ≡ result_of (y +ℤ pos n)
unfolding is_between
far_above (pos y) n h k = out (pos (y + n)) (lt-leb (y + n) 2147483647 (omega arith))
far_above (negsuc y) n h k =
    simp (le-ltb n (suc y) (omega arith)) (out (pos (n - suc y)) (lt-leb (n - suc y) 2147483647 (omega arith)))

pub far_below : (y : ℤ) (n : ℕ) → nat_abs y ≤ 2 ^ 30 → 2 ^ 32 ≤ n → refused 31 ≡ result_of (y -ℤ pos n)
unfolding is_between
far_below y zero h k = absurd (omega arith)
far_below (pos y) (suc n) h k =
    simp (lt-ltb y (suc n) (omega arith)) (out (negsuc (suc n - suc y)) (simp (lt-leb (suc n - suc y) 2147483647 (omega arith))))
far_below (negsuc y) (suc n) h k = out (negsuc (suc (y + n))) (simp (lt-leb (suc (y + n)) 2147483647 (omega arith)))

pub fits_above : (y : ℤ) (n : ℕ) → nat_abs y ≤ 2 ^ 30 → n < 2 ^ 32 → SFits w64 (y +ℤ pos n)
fits_above y n h k = fits_size (y +ℤ pos n) (omega (arith, size_add y (pos n)))

pub fits_below : (y : ℤ) (n : ℕ) → nat_abs y ≤ 2 ^ 30 → n < 2 ^ 32 → SFits w64 (y -ℤ pos n)
fits_below y n h k = fits_size (y -ℤ pos n) (omega (arith, size_minus y (pos n)))

-- each case of the answer
module _ (p q : Point) (x : ℤ) where
  pub line_no_segment : is_segment p q ≡ false → free ≡ line_at p q x
  unfolding line_at
  line_no_segment e = rw e

  pub line_no_raw : is_segment p q ≡ true → is_raw x ≡ false → free ≡ line_at p q x
  unfolding line_at
  line_no_raw e h = rw (e, h)

  pub line_is : is_segment p q ≡ true → is_raw x ≡ true → result_of (height_at p q x) ≡ line_at p q x
  unfolding line_at
  line_is e h = rw (e, h)

-- the line goes through both points
pub through_first : (p q : Point) → height_at p q p.x ≡ p.y
unfolding height_at floor_div
through_first p q =
    ap (λ (z : ℤ). p.y +ℤ floor_div z (nat_abs (q.x -ℤ p.x))) (ap (λ (z : ℤ). (q.y -ℤ p.y) *ℤ z) (+ℤ_invr p.x) ∙ *ℤ-zero (q.y -ℤ p.y))
    ∙ ap (λ (n : ℕ). p.y +ℤ pos n) (zero-div (nat_abs (q.x -ℤ p.x)))
    ∙ +ℤ_idr p.y

pub through_second : (p q : Point) → lt_z p.x q.x ≡ true → height_at p q q.x ≡ q.y
unfolding height_at
through_second p q e =
    let rise = q.y -ℤ p.y in
    let run = nat_abs (q.x -ℤ p.x) in
    ap (λ (z : ℤ). p.y +ℤ floor_div (rise *ℤ z) run) (sym (distance p.x q.x e))
    ∙ ap (λ (z : ℤ). p.y +ℤ z) (floor_exact rise run (apart p.x q.x e))
    ∙ +ℤ_comm p.y rise
    ∙ -ℤ-+ℤ_cancel q.y p.y

-- a value is in the range of an answer
pub line_range : (p q : Point) (x y : ℤ) → value y ≡ line_at p q x → is_between (negsuc 2147483647) (pos 2147483647) y ≡ true
unfolding line_at result_of
line_range p q x y = by (is_segment p q && is_raw x) (height_at p q x) (is_between (negsuc 2147483647) (pos 2147483647) (height_at p q x)) refl
  where
    by : (a : Bool) (h : ℤ) (b : Bool) → is_between (negsuc 2147483647) (pos 2147483647) h ≡ b
        → value y ≡ cond a (cond b (value h) (refused 31)) free → is_between (negsuc 2147483647) (pos 2147483647) y ≡ true
    by true h true f e = let s : y ≡ h = cc in rw s f
    by true h false f e = absurd (let z : ◌≡◌ {A = ℕ} 0 1 = cc in omega arith)
    by false h b f e = absurd (let z : ◌≡◌ {A = ℕ} 0 1 = cc in omega arith)
