-- The ranks of key spaces.
use Rattle.std.specs.Prelude.{◌≡◌, refl, List, [], ◌∷◌, map, ℕ, get_or}
use Rattle.laws.specs.Text.{ascii}
use Rattle.name_bytes.specs.declared.Name.{Name}
use Rattle.name_bytes.specs.Names.{name_of, curve_name_of}
use Rattle.verdicts.specs.Key.{parameter, curve, limits, check}
use Rattle.key_symbols.specs.Keyed.{name_symbol, curve_symbol, symbol_of, space_of}

-- the key space that the VALID chain stays in
abbrev pub parameters : ℕ
parameters = 4

-- by key space: but for the VALID chain, what a row names has a lower rank than the keys that it holds
unfoldable pub ranks : List ℕ
ranks = 0 ∷ 0 ∷ 0 ∷ 2 ∷ 1 ∷ 0 ∷ 2 ∷ 0 ∷ 2 ∷ 2 ∷ 3 ∷ []

unfoldable pub rank : ℕ → ℕ
rank space = get_or ranks space 0

abbrev t1 : Name
t1 = name_of (ascii "T1")

pub record Examples : Type 0 where
  -- a check of a limit of a parameter, which has a curve
  pub ranked : map (λ k. rank (space_of k)) (check t1 0 ∷ limits t1 ∷ parameter t1 ∷ curve (curve_name_of (ascii "C1")) ∷ []) ≡ 3 ∷ 2 ∷ 1 ∷ 0 ∷ []

pub examples : Examples
unfolding symbol_of name_symbol curve_symbol rank ranks
examples = record { ranked = refl }
