-- What a row says fits into symbols: few enough keys, each bounded, and namings of listed manners,
-- which go down in rank.
use mathlib.Core.Path.{◌≡◌, sym, ◌∙◌}
use mathlib.Core.Bool.{Bool, true, false, cond}
use mathlib.Core.List.{List, [], ◌∷◌, ◌++◌, Memᴰ}
use Prim.Native.Nat.{◌<◌}
use lib.Dec.{eqb}
use Rattle.laws.proofs.Cases.{false≢true}
use Rattle.rows.specs.declared.letters.LimitValue.{LimitValue}
use Rattle.rows.specs.declared.letters.LimitValue.TheVariants as LV
use Rattle.verdicts.specs.Key.{Key}
use Rattle.verdicts.specs.Facts.{Naming, Count, Facts, of_engineering}
use Rattle.key_symbols.specs.Keyed.{space_of}
use Rattle.keys.specs.Ranks.{parameters, rank}
use Rattle.manners.specs.Manners.{manner_of, manner_at, code_of}
use Rattle.key_symbols.specs.Bounded.{Bounded}

-- every element of a list
abbrev pub All : {A : Type 0} → (A → Type 0) → List A → Type 0
All P [] = Unit {0}
All P (a ∷ l) = P a × All P l

pub all_mem : {A : Type 0} (P : A → Type 0) {a : A} {l : List A} → All P l → Memᴰ a l → P a
all_mem P h (Memᴰ.head e) = rw e h.0
all_mem P h (Memᴰ.tail m) = all_mem P h.1 m

-- a naming goes down in rank, or along the VALID chain
pub record Lower (n : Naming) (k : Key) : Type 0 where
  pub down : n.chained ≡ false → rank (space_of n.key) < rank (space_of k)
  pub along : n.chained ≡ true → (space_of n.key ≡ parameters) × (space_of k ≡ parameters)

abbrev pub LowerFirst : Naming → List Key → Type 0
LowerFirst n [] = ⊥
LowerFirst n (k ∷ ks) = Lower n k

-- a naming of a row with these keys
pub record Listed (keys : List Key) (n : Naming) : Type 0 where
  pub bounded : Bounded n.key
  pub coded : eqb (code_of (manner_of n)) 0 ≡ false
  pub decoded : manner_at (code_of (manner_of n)) ≡ manner_of n
  pub lower : LowerFirst n keys

-- at most two keys, of two key spaces of one rank
abbrev pub KeysFit : List Key → Type 0
KeysFit [] = Unit {0}
KeysFit (k ∷ []) = Bounded k
KeysFit (k ∷ l ∷ []) = Bounded k × Bounded l × (space_of k ≡ space_of l → ⊥) × (rank (space_of l) ≡ rank (space_of k))
KeysFit (k ∷ l ∷ m ∷ ms) = ⊥

-- at most two namings, of which only the first may be chained
abbrev pub NamesFit : List Key → List Naming → Type 0
NamesFit keys [] = Unit {0}
NamesFit keys (n ∷ []) = Listed keys n
NamesFit keys (n ∷ m ∷ []) = Listed keys n × Listed keys m × (m.chained ≡ false)
NamesFit keys (n ∷ m ∷ o ∷ os) = ⊥

-- at most one count, of the group that goes by the first key
abbrev pub CountsFit : List Count → List Key → Type 0
CountsFit [] keys = Unit {0}
CountsFit (c ∷ []) [] = ⊥
CountsFit (c ∷ []) (k ∷ keys) = (c.group ≡ k) × (eqb c.column 0 ≡ false) × Bounded k
CountsFit (c ∷ d ∷ cs) keys = ⊥

-- at most one group
abbrev pub GroupsFit : List Key → Type 0
GroupsFit [] = Unit {0}
GroupsFit (g ∷ []) = Bounded g
GroupsFit (g ∷ h ∷ gs) = ⊥

pub record Fits (f : Facts) : Type 0 where
  pub keys : KeysFit f.keys
  pub names : NamesFit f.keys f.names
  pub counts : CountsFit f.counts f.keys
  pub groups : GroupsFit f.groups

-- a naming that isn't chained, of a row with one key
pub listed : (k : Key) (n : Naming) → Bounded n.key → rank (space_of n.key) < rank (space_of k) → n.chained ≡ false
    → eqb (code_of (manner_of n)) 0 ≡ false → manner_at (code_of (manner_of n)) ≡ manner_of n → Listed (k ∷ []) n
listed k n b h c e d =
    record {
      bounded = b;
      coded = e;
      decoded = d;
      lower = record { down = λ _. h; along = λ t. absurd (false≢true (sym c ∙ t)) };
    }

-- namings that may not be given
module _ (keys : List Key) (m n : Naming) (h : Listed keys m) (j : Listed keys n) (c : n.chained ≡ false) where
  pub both_given : (v w : Bool) → NamesFit keys (cond v (m ∷ []) [] ++ cond w (n ∷ []) [])
  both_given true true = (h, j, c)
  both_given true false = h
  both_given false true = j
  both_given false false = tt

  pub second_given : (w : Bool) → NamesFit keys (m ∷ cond w (n ∷ []) [])
  second_given true = (h, j, c)
  second_given false = h

  pub under_c_lem : (i : LimitValue) → NamesFit keys (m ∷ of_engineering i n)
  under_c_lem LV.Raw = h
  under_c_lem LV.Engineering = (h, j, c)
