-- Rows counted by their reason.
use mathlib.Core.Path.{◌≡◌, refl, ap, ◌∙◌}
use mathlib.Core.List.{List}
use Prim.Native.Nat.{ℕ, suc, ◌+◌, ◌/◌}
use native.Mathlib.Omega.{arith}
use lib.ListN.{get_or}
use borrow.Author.Tests.{eq-eqb, ne_eqb}
use Rattle.laws.specs.Prefix.{count_with}
use Rattle.check_tables.specs.Reasons.{has_reason}

-- no row is passed
pub counted_none : (cells : List ℕ) (reason : ℕ) → 0 ≡ count_with (has_reason cells reason) 0
unfolding count_with
counted_none cells reason = refl

-- all rows are
pub counted_all : (cells : List ℕ) (reason n i count : ℕ) → count ≡ count_with (has_reason cells reason) i → i ≡ n → count ≡ count_with (has_reason cells reason) n
counted_all cells reason n i count e q = e ∙ ap (count_with (has_reason cells reason)) q

-- a row more is passed
module _ (cells : List ℕ) (reason i count : ℕ) (so_far : count ≡ count_with (has_reason cells reason) i) (x : ℕ) (read : x ≡ get_or cells i 0) where
  pub counted_one : x / 256 ≡ reason → count + 1 ≡ count_with (has_reason cells reason) (i + 1)
  unfolding count_with has_reason
  counted_one e =
      let z : count + 1 ≡ suc count = omega arith in
      let y : i + 1 ≡ suc i = omega arith in
      rw (z, y, ← read, eq-eqb (x / 256) reason e, so_far)

  pub counted_not : (x / 256 ≡ reason → ⊥) → count ≡ count_with (has_reason cells reason) (i + 1)
  unfolding count_with has_reason
  counted_not e =
      let y : i + 1 ≡ suc i = omega arith in
      rw (y, ← read, ne_eqb (x / 256) reason e, so_far)
