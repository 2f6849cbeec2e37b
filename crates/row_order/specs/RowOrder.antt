-- The order in which rows that aren't good are told: a cause before what leans on it.
-- Rows go by their place among all rows, from 0.
use Rattle.std.specs.Prelude.{ℕ, zero, suc, ◌+◌, ◌/◌, ◌≡◌, refl, Bool, true, not, cond, ◌&&◌, List, [], ◌∷◌, ◌++◌, map, ◌⊎◌, eqb, ltb, get_or, Option, Some, None}
use Rattle.laws.specs.Lists.{any}
use Rattle.laws.specs.Prefix.{all_from, flag}
use Rattle.pointing.specs.Pointing.{points_to, first_of}

-- the turn of a row: 0 for a good one, 1 for reasons 1 to 8 and, in 6's place, 13 and 14, 3 for reason 11, which names
-- a row, and 2 for reasons 9, 10 and 12
unfoldable pub turn_of : ℕ → ℕ
turn_of verdict =
    cond (ltb (verdict / 256) 1) 0
    (cond (ltb (verdict / 256) 9) 1
    (cond (eqb (verdict / 256) 11) 3
    (cond (ltb 12 (verdict / 256)) 1 2)))

abbrev pub in_turn : (cells : List ℕ) → (turn i : ℕ) → Bool
in_turn cells turn i = eqb (turn_of (get_or cells i 0)) turn

-- the first of n rows that row i points to
abbrev pub first_cause : (halves bytes cells : List ℕ) → (n i : ℕ) → Option ℕ
first_cause halves bytes cells n i = first_of (all_from (points_to halves bytes cells i) 0 n)

-- row i is one of these
abbrev pub is_in : ℕ → List ℕ → Bool
is_in i rows = any (eqb i) rows

-- the rows told on the way to the row that was found
abbrev pub on_a_row : (ℕ → List ℕ) → Option ℕ → List ℕ
on_a_row way (Some j) = way j
on_a_row way None = []

-- which rows name others, and the first row that each points to
module _ (first : ℕ → Option ℕ) (naming : ℕ → Bool) where
  -- a row that names another comes after it, and that one after the row that it names in turn,
  -- as far as none of them was told
  unfoldable pub way_to : (steps : ℕ) → (told : List ℕ) → ℕ → List ℕ
  way_to zero told i = []
  way_to (suc steps) told i = cond (naming i && not (is_in i told)) (on_a_row (way_to steps (i ∷ told)) (first i) ++ i ∷ []) []

  -- what was told of n rows, come to in table order, before row i. As many steps as there are rows are enough
  unfoldable pub told_before : (n i : ℕ) → List ℕ
  told_before n zero = []
  told_before n (suc i) = told_before n i ++ way_to n (told_before n i) i

-- rows of reasons 1 to 8, 13 and 14 come first, then those of 9, 10 and 12, both in table order, and those of 11 last,
-- each after the row that it names
unfoldable pub order_of : (halves bytes cells : List ℕ) → (n : ℕ) → List ℕ
order_of halves bytes cells n =
    all_from (in_turn cells 1) 0 n
    ++ (all_from (in_turn cells 2) 0 n
    ++ told_before (first_cause halves bytes cells n) (in_turn cells 3) n n)

-- how often a row is told
abbrev pub times_in : ℕ → List ℕ → ℕ
times_in x [] = 0
times_in x (y ∷ rows) = flag (eqb x y) + times_in x rows

-- row i leads to row k, each row on the way to the first row that it points to
pub data Leads (first : ℕ → Option ℕ) : ℕ → ℕ → Type 0 where
  here : {i : ℕ} → Leads first i i
  on : {i j k : ℕ} → first i ≡ Some j → Leads first j k → Leads first i k

-- these rows are told one after the other: of the first row that each points to, if it isn't good,
-- it was told before, or leads back here
abbrev pub AllAfter : (first : ℕ → Option ℕ) → (bad : ℕ → Bool) → (told rows : List ℕ) → Type 0
AllAfter first bad told [] = Unit {0}
AllAfter first bad told (k ∷ rows) =
    ((j : ℕ) → first k ≡ Some j → bad j ≡ true → (is_in j told ≡ true) ⊎ Leads first j k) × AllAfter first bad (told ++ k ∷ []) rows

abbrev next_row : ℕ → Option ℕ
next_row i = Some (suc i)

abbrev below : (n i : ℕ) → Bool
below n i = ltb i n

pub record Examples : Type 0 where
  pub turns : map turn_of (0 ∷ 1286 ∷ 3331 ∷ 2304 ∷ 2567 ∷ 3080 ∷ 2817 ∷ []) ≡ 0 ∷ 1 ∷ 1 ∷ 2 ∷ 2 ∷ 2 ∷ 3 ∷ []
  -- three rows that each name the next one: the last is told first
  pub chain : told_before next_row (below 3) 4 4 ≡ 2 ∷ 1 ∷ 0 ∷ []
  -- two rows that both name row 1, which names itself
  pub circle : told_before (λ i. Some 1) (below 2) 2 2 ≡ 1 ∷ 0 ∷ []
  pub times : times_in 4 (4 ∷ 2 ∷ 4 ∷ []) ≡ 2

pub examples : Examples
unfolding turn_of told_before way_to
examples = record { turns = refl; chain = refl; circle = refl; times = refl }
