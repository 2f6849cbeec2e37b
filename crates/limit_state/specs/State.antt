-- The limit state, and which packets are newer.
use Rattle.std.specs.Prelude.{ℕ, ◌+◌, ◌-◌, ◌%◌, ◌≡◌, refl, Bool, true, false, not, ◌&&◌, ◌||◌, eqb, ltb, leb}
use Rattle.limit_state.specs.declared.state.LimitState.{LimitState}

-- 01: "run over 99, announced over 2, APID over 2,047, count over 16,383"
unfoldable pub is_over : LimitState → Bool
is_over s = ltb 99 s.run || (ltb 2 s.announced || (ltb 2047 s.apid || ltb 16383 s.count))

-- 01: "any number not 0"
unfoldable pub has_number : LimitState → Bool
has_number s = not (eqb s.apid 0) || (not (eqb s.count 0) || (not (eqb s.run 0) || not (eqb s.announced 0)))

-- 01: "34 … state with run over 99, announced over 2, APID over 2,047, count over 16,383,
-- or fresh with any number not 0"
unfoldable pub is_a_state : LimitState → Bool
is_a_state s = not (is_over s || (s.fresh && has_number s))

-- how far a count is ahead of the last, modulo 16,384
unfoldable pub ahead : (count last : ℕ) → ℕ
ahead count last = (count + (16384 - last % 16384)) % 16384

-- 01: "A packet is newer when its count is ahead of the last by 1 to 8,191 modulo 16,384"
unfoldable pub is_newer : (count last : ℕ) → Bool
is_newer count last = leb 1 (ahead count last) && leb (ahead count last) 8191

pub record Examples : Type 0 where
  -- 01: "Last count 16,383, next 0: newer. Same count again: 35"
  pub next : is_newer 0 16383 ≡ true
  pub same : is_newer 16383 16383 ≡ false
  pub farthest : is_newer 8190 16383 ≡ true
  pub too_far : is_newer 8191 16383 ≡ false
  pub new : is_a_state record { fresh = true; apid = 0; count = 0; run = 0; announced = 0 } ≡ true
  pub used : is_a_state record { fresh = false; apid = 2047; count = 16383; run = 99; announced = 2 } ≡ true
  pub new_with_run : is_a_state record { fresh = true; apid = 0; count = 0; run = 1; announced = 0 } ≡ false
  pub long_run : is_a_state record { fresh = false; apid = 2047; count = 16383; run = 100; announced = 2 } ≡ false

pub examples : Examples
unfolding is_newer ahead is_a_state is_over has_number
examples =
    record {
      next = refl;
      same = refl;
      farthest = refl;
      too_far = refl;
      new = refl;
      used = refl;
      new_with_run = refl;
      long_run = refl;
    }
