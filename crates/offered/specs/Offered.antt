-- The limit state that five numbers are.
use Rattle.std.specs.Prelude.{ℕ, ◌≡◌, refl, Bool, true, false, cond, ◌&&◌, List, [], ◌∷◌, eqb, leb, ℤ, pos, negsuc, nat_abs, get_or, Option, Some, None}
use Rattle.limit_state.specs.declared.state.LimitState.{LimitState}

-- one of 0 to `most`
unfoldable pub is_within : (most : ℕ) → ℤ → Bool
is_within most (pos n) = leb n most
is_within most (negsuc n) = false

-- 01: "The state is: fresh or not, APID, sequence count, run, announced". Fresh is 1 or not, 0; a state has places for
-- 16 bits of APID and of count, and for 8 bits of run and of announced
unfoldable pub are_fields : List ℤ → Bool
are_fields zs =
    is_within 1 (get_or zs 0 (pos 0)) && (is_within 65535 (get_or zs 1 (pos 0)) && (is_within 65535 (get_or zs 2 (pos 0))
    && (is_within 255 (get_or zs 3 (pos 0)) && is_within 255 (get_or zs 4 (pos 0)))))

unfoldable pub state_with : List ℤ → LimitState
state_with zs =
    record {
      fresh = eqb (nat_abs (get_or zs 0 (pos 0))) 1;
      apid = nat_abs (get_or zs 1 (pos 0));
      count = nat_abs (get_or zs 2 (pos 0));
      run = nat_abs (get_or zs 3 (pos 0));
      announced = nat_abs (get_or zs 4 (pos 0));
    }

-- none where a number is too large for its place, or negative
unfoldable pub offered_state : List ℤ → Option LimitState
offered_state zs = cond (are_fields zs) (Some (state_with zs)) None

pub record Examples : Type 0 where
  pub used : offered_state (pos 0 ∷ pos 10 ∷ pos 16383 ∷ pos 3 ∷ pos 1 ∷ [])
      ≡ Some (record { fresh = false; apid = 10; count = 16383; run = 3; announced = 1 })
  pub new : offered_state (pos 1 ∷ pos 0 ∷ pos 0 ∷ pos 0 ∷ pos 0 ∷ []) ≡ Some (record { fresh = true; apid = 0; count = 0; run = 0; announced = 0 })
  -- 65,546 is 10 in 16 bits
  pub apid : offered_state (pos 0 ∷ pos 65546 ∷ pos 0 ∷ pos 0 ∷ pos 0 ∷ []) ≡ None
  pub two : offered_state (pos 2 ∷ pos 10 ∷ pos 0 ∷ pos 0 ∷ pos 0 ∷ []) ≡ None
  pub negative : offered_state (pos 0 ∷ pos 10 ∷ pos 0 ∷ negsuc 0 ∷ pos 0 ∷ []) ≡ None

pub examples : Examples
unfolding offered_state are_fields is_within state_with
examples = record { used = refl; new = refl; apid = refl; two = refl; negative = refl }
