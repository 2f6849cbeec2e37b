-- One law for each return of the functions.
use mathlib.Core.Path.{◌≡◌}
use mathlib.Core.Bool.{Bool, true, false}
use mathlib.Core.List.{List}
use Prim.Native.Nat.{ℕ, suc, ◌+◌, ◌-◌, ◌/◌, ◌%◌, ◌≤◌, ◌<◌}
use native.Mathlib.Omega.{arith}
use lib.ListN.{length, get_or}
use borrow.Author.Tests.{ne_eqb}
use Rattle.std.specs.Prelude.{Some, None}
use Rattle.laws.specs.Prefix.{all_from}
use Rattle.key_rows.specs.KeyRows.{shares_by, counted_by}
use Rattle.named_rows.specs.NamedRows.{named_at_by, follower_by}
use Rattle.pointing.specs.Pointing.{points_to, first_of}

module _ (halves bytes cells : List ℕ) (i j : ℕ) where
  -- by the reason
  module _ (v : ℕ) (cell : v ≡ get_or cells i 0) where
    pub points_shares : v / 256 ≡ 9 → (b : Bool) → b ≡ shares_by halves i j → b ≡ points_to halves bytes cells i j
    unfolding points_to
    points_shares r b e = rw (← cell, r, e)

    pub points_counted : v / 256 ≡ 10 → (b : Bool) → b ≡ counted_by halves bytes cells i j → b ≡ points_to halves bytes cells i j
    unfolding points_to
    points_counted r b e = rw (← cell, r, e)

    pub points_named : v / 256 ≡ 11 → (b : Bool) → b ≡ named_at_by halves bytes (v % 256) i j → b ≡ points_to halves bytes cells i j
    unfolding points_to
    points_named r b e = rw (← cell, r, e)

    pub points_follower : v / 256 ≡ 12 → (b : Bool) → b ≡ follower_by halves bytes cells i j → b ≡ points_to halves bytes cells i j
    unfolding points_to
    points_follower r b e = rw (← cell, r, e)

    pub points_none : (v / 256 ≡ 9 → ⊥) → (v / 256 ≡ 10 → ⊥) → (v / 256 ≡ 11 → ⊥) → (v / 256 ≡ 12 → ⊥) → false ≡ points_to halves bytes cells i j
    unfolding points_to
    points_none a b c d = rw (← cell, ne_eqb (v / 256) 9 a, ne_eqb (v / 256) 10 b, ne_eqb (v / 256) 11 c, ne_eqb (v / 256) 12 d)

-- a search from a place on
module _ (passes : ℕ → Bool) (lo n : ℕ) where
  left : lo < n → n - lo ≡ suc (n - (lo + 1))
  left h = omega arith

  pub search_here : lo < n → passes lo ≡ true → Some lo ≡ first_of (all_from passes lo (n - lo))
  unfolding first_of all_from
  search_here h e = rw (left h, e)

  pub search_more : lo < n → passes lo ≡ false → all_from passes lo (n - lo) ≡ all_from passes (lo + 1) (n - (lo + 1))
  unfolding all_from
  search_more h e = rw (left h, e)

  pub search_end : n ≤ lo → None ≡ first_of (all_from passes lo (n - lo))
  unfolding first_of all_from
  search_end h = let z : n - lo ≡ 0 = omega arith in rw z

-- nothing is counted yet
pub count_start : (passes : ℕ → Bool) (n : ℕ) → 0 + length (all_from passes 0 (n - 0)) ≡ length (all_from passes 0 n)
count_start passes n = let z : n - 0 ≡ n = omega arith in rw z (omega arith)

-- what is counted so far, and what is left
module _ (passes : ℕ → Bool) (count lo n : ℕ) (all : ℕ) (so_far : count + length (all_from passes lo (n - lo)) ≡ all) where
  pub count_here : lo < n → passes lo ≡ true → count + 1 + length (all_from passes (lo + 1) (n - (lo + 1))) ≡ all
  unfolding all_from
  count_here h e =
      let z : length (all_from passes lo (n - lo)) ≡ suc (length (all_from passes (lo + 1) (n - (lo + 1)))) = rw (left passes lo n h, e) in
      omega arith

  pub count_more : lo < n → passes lo ≡ false → count + length (all_from passes (lo + 1) (n - (lo + 1))) ≡ all
  count_more h e = rw (← search_more passes lo n h e) so_far

  pub count_end : n ≤ lo → count ≡ all
  unfolding all_from
  count_end h =
      let z : n - lo ≡ 0 = omega arith in
      let q : length (all_from passes lo (n - lo)) ≡ 0 = rw z in
      omega arith
