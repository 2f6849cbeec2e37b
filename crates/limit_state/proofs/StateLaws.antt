-- Which numbers make a state, and which packets are newer.
use mathlib.Core.Path.{◌≡◌, refl, ap, ◌∙◌}
use mathlib.Core.Bool.{Bool, true, false, not, ◌&&◌, ◌||◌}
use Prim.Native.Nat.{ℕ, zero, suc, ◌+◌, ◌-◌, ◌%◌, ◌≤◌, ◌<◌}
use native.Mathlib.Omega.{arith}
use lib.Dec.{ltb, leb}
use borrow.Author.Tests.{ltb-false, leb-true, le-ltb, lt-leb, le-leb}
use Rattle.laws.proofs.Cases.{false≢true, and_left, and_right, and_false}
use Rattle.limit_state.specs.State.{is_over, has_number, is_a_state, ahead, is_newer}
use Rattle.limit_state.specs.declared.state.LimitState.{LimitState}

fresh_tests : (over fresh number : Bool) → over ≡ false → fresh ≡ true → not number ≡ not (over || (fresh && number))
fresh_tests over fresh number h f = rw (h, f)

-- a state, test by test
module _ (s : LimitState) where
  pub over_no_state : is_over s ≡ true → false ≡ is_a_state s
  unfolding is_a_state
  over_no_state h = rw h

  pub fresh_state_lem : (b : Bool) → is_over s ≡ false → s.fresh ≡ true → b ≡ has_number s → not b ≡ is_a_state s
  unfolding is_a_state
  fresh_state_lem b h f e = ap not e ∙ fresh_tests (is_over s) s.fresh (has_number s) h f

  pub used_state : is_over s ≡ false → s.fresh ≡ false → true ≡ is_a_state s
  unfolding is_a_state
  used_state h f = rw (h, f)

  none_over : (a b c d : Bool) → ltb 99 s.run ≡ a → ltb 2 s.announced ≡ b → ltb 2047 s.apid ≡ c → ltb 16383 s.count ≡ d
      → (x : Bool) → not ((a || (b || (c || d))) || x) ≡ true → (s.run ≤ 99) × (s.announced ≤ 2)
  none_over true b c d p q r t x e = absurd (false≢true e)
  none_over false true c d p q r t x e = absurd (false≢true e)
  none_over false false c d p q r t x e = (ltb-false _ _ p, ltb-false _ _ q)

  -- the run of a state is at most 99, and announced at most 2
  pub state_small : is_a_state s ≡ true → (s.run ≤ 99) × (s.announced ≤ 2)
  unfolding is_a_state is_over
  state_small e =
      none_over (ltb 99 s.run) (ltb 2 s.announced) (ltb 2047 s.apid) (ltb 16383 s.count) refl refl refl refl (s.fresh && has_number s) e

-- numbers that aren't over what they may be make a state that isn't fresh
pub makes_state : (a c r n : ℕ) → a ≤ 2047 → c ≤ 16383 → r ≤ 99 → n ≤ 2
    → is_a_state record { fresh = false; apid = a; count = c; run = r; announced = n } ≡ true
unfolding is_a_state is_over
makes_state a c r n ha hc hr hn = rw (le-ltb 99 r hr, le-ltb 2 n hn, le-ltb 2047 a ha, le-ltb 16383 c hc)

-- 01: "Last count 16,383, next 0: newer"
pub wraps : is_newer 0 16383 ≡ true
unfolding is_newer ahead
wraps = refl

-- no count is newer than itself
pub never_newer : (c : ℕ) → is_newer c c ≡ false
unfolding is_newer ahead
never_newer c = rw (lt-leb 1 ((c + (16384 - c % 16384)) % 16384) (omega arith))

-- of two counts, at most one is newer than the other
pub one_way : (a b : ℕ) → is_newer a b ≡ true → is_newer b a ≡ false
unfolding is_newer ahead
one_way a b e =
    let low : 1 ≤ (a + (16384 - b % 16384)) % 16384 = leb-true 1 _ (and_left (leb 1 ((a + (16384 - b % 16384)) % 16384)) _ e) in
    let high : (a + (16384 - b % 16384)) % 16384 ≤ 8191 = leb-true _ 8191 (and_right (leb 1 ((a + (16384 - b % 16384)) % 16384)) _ e) in
    rw (lt-leb ((b + (16384 - a % 16384)) % 16384) 8191 (omega arith), and_false)

-- what `ahead` means: so many counts after the last, modulo 16,384
pub ahead_is : (count last : ℕ) → ((last + ahead count last) % 16384 ≡ count % 16384) × (ahead count last < 16384)
unfolding ahead
ahead_is count last = (omega arith, omega arith)

-- a packet from 1 to 8,191 counts after the last is newer
pub newer_by : (last d : ℕ) → 1 ≤ d → d ≤ 8191 → is_newer ((last + d) % 16384) last ≡ true
unfolding is_newer ahead
newer_by last d low high =
    let e : ((last + d) % 16384 + (16384 - last % 16384)) % 16384 ≡ d = omega arith in
    rw (e, le-leb 1 d low, le-leb d 8191 high)

-- a packet from 0 to 8,192 counts before the last isn't
pub behind_old : (count last d : ℕ) → d ≤ 8192 → (count + d) % 16384 ≡ last % 16384 → is_newer count last ≡ false
unfolding is_newer ahead
behind_old count last zero near e =
    let z : (count + (16384 - last % 16384)) % 16384 ≡ 0 = omega arith in
    rw z
behind_old count last (suc d) near e =
    let far : 8191 < (count + (16384 - last % 16384)) % 16384 = omega arith in
    rw (lt-leb ((count + (16384 - last % 16384)) % 16384) 8191 far, and_false)
