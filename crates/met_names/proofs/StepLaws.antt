-- What each step of the passes answers, by what was read.
use mathlib.Core.Path.{◌≡◌, refl}
use mathlib.Core.Bool.{Bool, true, false, cond}
use mathlib.Core.List.{List}
use Prim.Native.Nat.{ℕ, zero, suc, ◌+◌, ◌*◌}
use lib.Dec.{eqb}
use lib.ListN.{get_or}
use borrow.Author.Tests.{eq-eqb, ne_eqb}
use Rattle.laws.specs.Lists.{or_else}
use Rattle.manners.specs.Manners.{manner_at, kind_weight, is_met_by}
use Rattle.chain_steps.specs.Chains.{no_row}
use Rattle.met_names.specs.Names.{asked_at, met_at, name_at, final_of, firm_of}

-- the first of two numbers where it isn't 0
pub or_here : (a b : ℕ) → (a ≡ 0 → ⊥) → a ≡ or_else a b
or_here zero b h = absurd (h refl)
or_here (suc a) b h = refl

-- what a naming found
module _ (kinds : List ℕ) (code found : ℕ) where
  pub asked_none : found ≡ no_row → false ≡ asked_at kinds code found
  unfolding asked_at
  asked_none h = rw (eq-eqb found no_row h)

  pub asked_row : (found ≡ no_row → ⊥) → (mark weighs : ℕ) → mark ≡ get_or kinds found 0 → weighs ≡ kind_weight (manner_at code).kind
      → (b : Bool) → b ≡ is_met_by mark weighs → b ≡ asked_at kinds code found
  unfolding asked_at
  asked_row h mark weighs marked weighed b is = rw (ne_eqb found no_row h, ← marked, ← weighed) is

module _ (kinds good : List ℕ) (code found : ℕ) where
  pub met_none : code ≡ 0 → true ≡ met_at kinds good code found
  unfolding met_at
  met_none h = rw (eq-eqb code 0 h)

  module _ (some : code ≡ 0 → ⊥) (b : Bool) (asks : b ≡ asked_at kinds code found) where
    pub met_not : b ≡ false → false ≡ met_at kinds good code found
    unfolding met_at
    met_not h = rw (ne_eqb code 0 some, ← asks, h)

    pub met_by : b ≡ true → (mark : ℕ) → mark ≡ get_or good found 0 → eqb mark 1 ≡ met_at kinds good code found
    unfolding met_at
    met_by h mark marked = rw (ne_eqb code 0 some, ← asks, h, ← marked)

  -- its verdict
  module _ (b : Bool) (is : b ≡ met_at kinds good code found) where
    pub name_met : b ≡ true → 0 ≡ name_at kinds good code found
    unfolding name_at
    name_met h = rw (← is, h)

    pub name_unmet : b ≡ false → (column : ℕ) → column ≡ (manner_at code).column → 11 * 256 + column ≡ name_at kinds good code found
    unfolding name_at
    name_unmet h column at = rw (← is, h, ← at)

-- the row's verdict
module _ (kinds good : List ℕ) (base code1 found1 code2 found2 : ℕ) where
  pub final_base : (base ≡ 0 → ⊥) → base ≡ final_of kinds good base code1 found1 code2 found2
  unfolding final_of
  final_base h = or_here base _ h

  module _ (free : base ≡ 0) (one : ℕ) (first : one ≡ name_at kinds good code1 found1) where
    pub final_one : (one ≡ 0 → ⊥) → one ≡ final_of kinds good base code1 found1 code2 found2
    unfolding final_of
    final_one h = rw (free, ← first) (or_here one _ h)

    pub final_two : one ≡ 0 → (two : ℕ) → two ≡ name_at kinds good code2 found2 → two ≡ final_of kinds good base code1 found1 code2 found2
    unfolding final_of
    final_two h two second = rw (free, ← first, h, ← second)

-- whether a row is firm: b says whether its first naming is of a chain
module _ (kinds clean : List ℕ) (code found next : ℕ) (b : Bool) (chains : b ≡ (manner_at code).chained) where
  pub linked_chain : b ≡ true → (a : Bool) → a ≡ asked_at kinds code next
      → a ≡ cond (manner_at code).chained (asked_at kinds code next) (met_at kinds clean code found)
  linked_chain h a is = rw (← chains, h) is

  pub linked_met : b ≡ false → (a : Bool) → a ≡ met_at kinds clean code found
      → a ≡ cond (manner_at code).chained (asked_at kinds code next) (met_at kinds clean code found)
  linked_met h a is = rw (← chains, h) is

module _ (kinds clean : List ℕ) (base code1 found1 next code2 found2 : ℕ) where
  pub firm_reason : (base ≡ 0 → ⊥) → false ≡ firm_of kinds clean base code1 found1 next code2 found2
  unfolding firm_of
  firm_reason h = rw (ne_eqb base 0 h)

  module _ (free : base ≡ 0) (a : Bool) (links : a ≡ cond (manner_at code1).chained (asked_at kinds code1 next) (met_at kinds clean code1 found1)) where
    pub firm_broken : a ≡ false → false ≡ firm_of kinds clean base code1 found1 next code2 found2
    unfolding firm_of
    firm_broken k = rw (eq-eqb base 0 free, ← links, k)

    pub firm_on : a ≡ true → (met : Bool) → met ≡ met_at kinds clean code2 found2 → met ≡ firm_of kinds clean base code1 found1 next code2 found2
    unfolding firm_of
    firm_on k met is = rw (eq-eqb base 0 free, ← links, k, ← is)
