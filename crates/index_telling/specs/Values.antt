-- The answers of the calls with an index, in plain numbers.
use Rattle.std.specs.Prelude.{ℕ, ◌≡◌, refl, List, [], ◌∷◌, ◌++◌, ℤ, pos}
use Rattle.key_symbols.specs.declared.FiveNumbers.{FiveNumbers}
use Rattle.outcomes.specs.Outcome.{Outcome, refused, answer}
use Rattle.identification.specs.Identification.{Identity}
use Rattle.searching.specs.Search.{Compared}
use Rattle.plain_answers.specs.Values.{of_identity}
use Rattle.telling.specs.Words.{word}
use Rattle.telling.specs.Answers.{Plain, refused_with, with_these_values}

-- 02, P4: "The answer, 25 included, … tells how many entries were compared": after the seven values, or alone
unfoldable pub of_compared : (compared : ℕ) → Outcome Identity → Plain
of_compared compared (answer i) = with_these_values (of_identity i ++ word compared ∷ [])
of_compared compared (refused number place) = record { number = number; place = place; values = word compared ∷ [] }

-- every other refusal tells its number and place only
unfoldable pub plain_search : Outcome Compared → Plain
plain_search (refused number place) = refused_with number place
plain_search (answer c) = of_compared c.compared c.identity

-- how many entries an index has
unfoldable pub of_entries : ℕ → List ℤ
of_entries count = word count ∷ []

abbrev five : FiveNumbers
five = record { ptype = 3; stype = 25; apid = 10; pi1 = 4660; pi2 = 0 }

pub record Examples : Type 0 where
  pub found : plain_search (answer (record { identity = answer (record { row = 7; spid = 1000; numbers = five }); compared = 2 }))
      ≡ with_these_values (pos 7 ∷ pos 1000 ∷ pos 10 ∷ pos 3 ∷ pos 25 ∷ pos 4660 ∷ pos 0 ∷ pos 2 ∷ [])
  pub none : plain_search (answer (record { identity = refused 25 0; compared = 11 })) ≡ record { number = 25; place = 0; values = pos 11 ∷ [] }
  pub no_index : plain_search (refused 40 0) ≡ record { number = 40; place = 0; values = [] }

pub examples : Examples
unfolding plain_search of_compared of_identity word
examples = record { found = refl; none = refl; no_index = refl }
