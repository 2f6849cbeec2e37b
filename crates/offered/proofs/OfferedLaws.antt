-- Numbers that their fields can hold.
use mathlib.Core.Path.{◌≡◌, refl, sym, ◌∙◌}
use mathlib.Core.Bool.{true, false, ◌&&◌}
use mathlib.Core.List.{List}
use Prim.Native.Nat.{ℕ, ◌≤◌}
use native.Mathlib.Omega.{arith}
use lib.Dec.{leb, eqb}
use lib.IntN.{ℤ, pos, negsuc, nat_abs}
use lib.ListN.{get_or}
use lib.Signed.{lt_z}
use borrow.Author.Tests.{le-ltb, leb-true}
use Rattle.std.specs.Prelude.{Some, None}
use Rattle.laws.proofs.Cases.{false≢true, and_left, and_right}
use Rattle.offered.specs.Offered.{is_within, are_fields, state_with, offered_state}

pub within_negative : (most : ℕ) (z : ℤ) → lt_z z (pos 0) ≡ true → false ≡ is_within most z
unfolding is_within
within_negative most (pos n) h = absurd (false≢true (sym (le-ltb n 0 (omega arith)) ∙ h))
within_negative most (negsuc n) h = refl

pub within_natural : (most : ℕ) (z : ℤ) → lt_z z (pos 0) ≡ false → leb (nat_abs z) most ≡ is_within most z
unfolding is_within
within_natural most (pos n) h = refl
within_natural most (negsuc n) h = absurd (false≢true (sym h))

-- five tests, in order
module _ (zs : List ℤ) where
  pub fields_0 : is_within 1 (get_or zs 0 (pos 0)) ≡ false → false ≡ are_fields zs
  unfolding are_fields
  fields_0 e = rw e

  module _ (e0 : is_within 1 (get_or zs 0 (pos 0)) ≡ true) where
    pub fields_1 : is_within 65535 (get_or zs 1 (pos 0)) ≡ false → false ≡ are_fields zs
    unfolding are_fields
    fields_1 e = rw (e0, e)

    module _ (e1 : is_within 65535 (get_or zs 1 (pos 0)) ≡ true) where
      pub fields_2 : is_within 65535 (get_or zs 2 (pos 0)) ≡ false → false ≡ are_fields zs
      unfolding are_fields
      fields_2 e = rw (e0, e1, e)

      module _ (e2 : is_within 65535 (get_or zs 2 (pos 0)) ≡ true) where
        pub fields_3 : is_within 255 (get_or zs 3 (pos 0)) ≡ false → false ≡ are_fields zs
        unfolding are_fields
        fields_3 e = rw (e0, e1, e2, e)

        pub fields_4 : is_within 255 (get_or zs 3 (pos 0)) ≡ true → is_within 255 (get_or zs 4 (pos 0)) ≡ are_fields zs
        unfolding are_fields
        fields_4 e = rw (e0, e1, e2, e)

-- a number within its bounds is no larger
within_most : (most : ℕ) (z : ℤ) → is_within most z ≡ true → nat_abs z ≤ most
unfolding is_within
within_most most (pos n) e = leb-true n most e
within_most most (negsuc n) e = absurd (false≢true e)

module _ (zs : List ℤ) (e : are_fields zs ≡ true) where
  rest_1 : (is_within 65535 (get_or zs 1 (pos 0)) && (is_within 65535 (get_or zs 2 (pos 0)) &&
      (is_within 255 (get_or zs 3 (pos 0)) && is_within 255 (get_or zs 4 (pos 0))))) ≡ true
  unfolding are_fields
  rest_1 = and_right (is_within 1 (get_or zs 0 (pos 0))) _ e

  rest_2 : (is_within 65535 (get_or zs 2 (pos 0)) && (is_within 255 (get_or zs 3 (pos 0)) && is_within 255 (get_or zs 4 (pos 0)))) ≡ true
  rest_2 = and_right (is_within 65535 (get_or zs 1 (pos 0))) _ rest_1

  rest_3 : (is_within 255 (get_or zs 3 (pos 0)) && is_within 255 (get_or zs 4 (pos 0))) ≡ true
  rest_3 = and_right (is_within 65535 (get_or zs 2 (pos 0))) _ rest_2

  pub apid_fits : nat_abs (get_or zs 1 (pos 0)) ≤ 65535
  apid_fits = within_most 65535 (get_or zs 1 (pos 0)) (and_left (is_within 65535 (get_or zs 1 (pos 0))) _ rest_1)

  pub count_fits : nat_abs (get_or zs 2 (pos 0)) ≤ 65535
  count_fits = within_most 65535 (get_or zs 2 (pos 0)) (and_left (is_within 65535 (get_or zs 2 (pos 0))) _ rest_2)

  pub run_fits : nat_abs (get_or zs 3 (pos 0)) ≤ 255
  run_fits = within_most 255 (get_or zs 3 (pos 0)) (and_left (is_within 255 (get_or zs 3 (pos 0))) _ rest_3)

  pub announced_fits : nat_abs (get_or zs 4 (pos 0)) ≤ 255
  announced_fits = within_most 255 (get_or zs 4 (pos 0)) (and_right (is_within 255 (get_or zs 3 (pos 0))) _ rest_3)

  pub offered_is : {f a c r n : ℕ} → f ≡ nat_abs (get_or zs 0 (pos 0)) → a ≡ nat_abs (get_or zs 1 (pos 0)) → c ≡ nat_abs (get_or zs 2 (pos 0))
      → r ≡ nat_abs (get_or zs 3 (pos 0)) → n ≡ nat_abs (get_or zs 4 (pos 0))
      → Some (record { fresh = eqb f 1; apid = a; count = c; run = r; announced = n }) ≡ offered_state zs
  unfolding offered_state state_with
  offered_is f a c r n = rw (e, f, a, c, r, n)

pub offered_none : (zs : List ℤ) → are_fields zs ≡ false → None ≡ offered_state zs
unfolding offered_state
offered_none zs e = rw e
