-- Tests over the first numbers, and over those from one on.
use Rattle.std.specs.Prelude.{ℕ, zero, suc, ◌+◌, ◌≡◌, refl, Bool, true, false, cond, ◌||◌, List, [], ◌∷◌, ltb}

-- one more than the last of the first n numbers that passes, or 0
unfoldable pub last_with : (ℕ → Bool) → ℕ → ℕ
last_with passes zero = 0
last_with passes (suc n) = cond (passes n) (suc n) (last_with passes n)

-- how many of the first n numbers pass
unfoldable pub count_with : (ℕ → Bool) → ℕ → ℕ
count_with passes zero = 0
count_with passes (suc n) = cond (passes n) (suc (count_with passes n)) (count_with passes n)

-- one of the first n numbers passes
unfoldable pub any_with : (ℕ → Bool) → ℕ → Bool
any_with passes zero = false
any_with passes (suc n) = passes n || any_with passes n

-- one more than the first of the d numbers from lo on that passes, or else x
unfoldable pub first_from : (ℕ → Bool) → (x lo d : ℕ) → ℕ
first_from passes x lo zero = x
first_from passes x lo (suc d) = cond (passes lo) (lo + 1) (first_from passes x (lo + 1) d)

-- those of the d numbers from lo on that pass, in their order
unfoldable pub all_from : (ℕ → Bool) → (lo d : ℕ) → List ℕ
all_from passes lo zero = []
all_from passes lo (suc d) = cond (passes lo) (lo ∷ all_from passes (lo + 1) d) (all_from passes (lo + 1) d)

-- a test as a number
abbrev pub flag : Bool → ℕ
flag test = cond test 1 0

abbrev over_two : ℕ → Bool
over_two i = ltb 2 i

pub record Examples : Type 0 where
  pub last : last_with over_two 6 ≡ 6
  pub none : last_with over_two 2 ≡ 0
  pub count : count_with over_two 6 ≡ 3
  pub some : any_with over_two 4 ≡ true
  pub next : first_from over_two 9 1 5 ≡ 4
  pub no_next : first_from over_two 9 1 2 ≡ 9
  pub all : all_from over_two 1 5 ≡ 3 ∷ 4 ∷ 5 ∷ []

pub examples : Examples
unfolding last_with count_with any_with first_from all_from
examples = record { last = refl; none = refl; count = refl; some = refl; next = refl; no_next = refl; all = refl }
