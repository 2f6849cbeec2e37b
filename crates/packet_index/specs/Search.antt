-- The search of an index.
use Rattle.std.specs.Prelude.{ℕ, zero, suc, ◌+◌, ◌/◌, ◌^◌, ◌≡◌, refl, true, false, List, [], ◌∷◌, leb, length, get_or, take, drop}
use Rattle.laws.specs.Prefix.{last_with}
use Rattle.key_symbols.specs.declared.FiveNumbers.{FiveNumbers}
use Rattle.packet_order.specs.declared.Order.{Order}
use Rattle.packet_order.specs.declared.Order.TheVariants.{Before, Same, After}
use Rattle.packet_order.specs.Order.{first_then, in_order, compared}
use Rattle.packet_index.specs.declared.Searched.{Searched}
use Rattle.packet_index.specs.Index.{zeros, of_subtype}

-- no entry is left, so many come before
abbrev pub nowhere : ℕ → Searched
nowhere before = record { found = false; place = before; compared = 0 }

-- the one entry that was compared is equal
abbrev pub found_at : ℕ → Searched
found_at place = record { found = true; place = place; compared = 1 }

-- one entry compared, then more
abbrev pub one_more : Searched → Searched
one_more later = record { found = later.found; place = later.place; compared = suc later.compared }

-- 02, P4: "ends there if equal, else goes on with those before or after it"
abbrev pub go_on : Order → (there earlier later : Searched) → Searched
go_on Before there earlier later = one_more earlier
go_on Same there earlier later = there
go_on After there earlier later = one_more later

-- 02, P4: "Of n entries …, the one at n/2 rounded down, from 0"
abbrev pub middle : List FiveNumbers → ℕ
middle entries = length entries / 2

-- 02, P4: "Of n entries a search compares the one at n/2 rounded down, from 0, and ends there if equal, else goes on
-- with those before or after it": the entries left, and how many stand before them. In so many steps at most
unfoldable pub search_from : (steps : ℕ) → FiveNumbers → (before : ℕ) → List FiveNumbers → Searched
search_from zero target before entries = nowhere before
search_from (suc steps) target before [] = nowhere before
search_from (suc steps) target before (entry ∷ entries) =
    let left = entry ∷ entries in
    let half = middle left in
    go_on (compared target (get_or left half zeros)) (found_at (before + half)) (search_from steps target before (take half left))
    (search_from steps target (before + half + 1) (drop (half + 1) left))

-- a search has at most as many steps as entries
unfoldable pub searched : FiveNumbers → List FiveNumbers → Searched
searched target entries = search_from (length entries) target 0 entries

-- how many bits a number has
unfoldable pub bits : ℕ → ℕ
bits n = last_with (λ k. leb (2 ^ k) n) n

-- of the entries 5, 17 and 25 first 17 is compared
abbrev entries_of : List FiveNumbers
entries_of = of_subtype 5 ∷ of_subtype 17 ∷ of_subtype 25 ∷ []

pub record Examples : Type 0 where
  pub in_the_middle : searched (of_subtype 17) entries_of ≡ record { found = true; place = 1; compared = 1 }
  pub after_it : searched (of_subtype 25) entries_of ≡ record { found = true; place = 2; compared = 2 }
  pub no_entry_lem : searched (of_subtype 6) entries_of ≡ record { found = false; place = 1; compared = 2 }
  -- of two entries the second is compared first
  pub of_two : searched (of_subtype 17) (of_subtype 5 ∷ of_subtype 17 ∷ []) ≡ record { found = true; place = 1; compared = 1 }
  pub empty : searched (of_subtype 17) [] ≡ record { found = false; place = 0; compared = 0 }
  pub six_bits : bits 63 ≡ 6
  pub seven_bits : bits 64 ≡ 7

pub examples : Examples
unfolding searched search_from bits last_with compared in_order first_then
examples = record { in_the_middle = refl; after_it = refl; no_entry_lem = refl; of_two = refl; empty = refl; six_bits = refl; seven_bits = refl }
