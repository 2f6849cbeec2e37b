-- The places of a group's rows, listed one after the other.
use mathlib.Core.Path.{◌≡◌, refl, ap, ◌∙◌}
use mathlib.Core.List.{List, [], ◌∷◌}
use Prim.Native.Nat.{ℕ, zero, suc, ◌+◌, ◌-◌, ◌≤◌, ◌<◌}
use native.Mathlib.Omega.{arith}
use native.Mathlib.Numerals.{add-one}
use lib.ListN.{length, get_or, set, drop}
use lib.Seq.{sets, get_or-drop}
use borrow.Author.Tests.{eq-eqb, ne_eqb}
use Rattle.passes.specs.Groups.{chain}
use Rattle.database.specs.Arrays.{next_column, group_places}

-- nothing comes after the last row
ended : (nexts : List ℕ) (steps at : ℕ) → at ≡ 0 → chain nexts steps at ≡ []
unfolding chain
ended nexts zero at z = refl
ended nexts (suc steps) at z = rw (eq-eqb at 0 z)

-- what is left of a chain after n rows
abbrev left : List ℕ → (n at : ℕ) → List ℕ
left columns n at = chain (drop next_column columns) (1024 - n) at

-- with the rows left, the array is as it is with all of them listed
pub record Listing (columns : List ℕ) (first : ℕ) (places₀ places : List ℕ) (n at : ℕ) : Type 0 where
  pub few : n ≤ 1024
  pub rows : n + length (left columns n at) ≡ length (group_places columns first)
  pub listed : sets places n (left columns n at) ≡ sets places₀ 0 (group_places columns first)

-- what `list_members` promises
abbrev Listed : List ℕ → ℕ → List ℕ → List ℕ → ℕ → Type 0
Listed columns first places₀ places n = (n ≡ length (group_places columns first)) × ((places ≡ sets places₀ 0 (group_places columns first)) × (n ≤ 1024))

pub listing_none : (columns : List ℕ) (first : ℕ) (places : List ℕ) → Listing columns first places places 0 first
unfolding group_places
listing_none columns first places = record { few = omega arith; rows = omega arith; listed = refl }

module _ (columns : List ℕ) (first : ℕ) (places₀ places : List ℕ) (n at : ℕ) (l : Listing columns first places₀ places n at) where
  module _ (more : n < 1024) (there : at ≡ 0 → ⊥) (next : ℕ) (e : next ≡ get_or columns (next_column + (at - 1)) 0) where
    led : left columns n at ≡ (at - 1) ∷ left columns (n + 1) next
    unfolding chain
    led =
        let s : 1024 - n ≡ suc (1024 - (n + 1)) = omega arith in
        rw (s, ne_eqb at 0 there, get_or-drop next_column columns (at - 1) 0, e)

    stored : sets (set places n (at - 1)) (n + 1) (left columns (n + 1) next) ≡ sets places n (left columns n at)
    stored = rw (led, add-one n)

    pub listing_more : Listing columns first places₀ (set places n (at - 1)) (n + 1) next
    listing_more =
        record {
          few = omega arith;
          rows = omega (arith, ap length led, l.rows);
          listed = stored ∙ l.listed;
        }

  done : left columns n at ≡ [] → Listed columns first places₀ places n
  done z = (omega (arith, rw z at l.rows), (rw z at l.listed, l.few))

  pub listing_ended : at ≡ 0 → Listed columns first places₀ places n
  listing_ended z = done (ended (drop next_column columns) (1024 - n) at z)

  pub listing_full : 1024 ≤ n → Listed columns first places₀ places n
  unfolding chain
  listing_full h = done (let z : 1024 - n ≡ 0 = omega arith in rw z)
