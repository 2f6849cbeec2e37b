-- The manners of naming: the columns that name a row, as a list.
use Rattle.std.specs.Prelude.{◌≡◌, refl, Bool, true, false, cond, ◌&&◌, List, [], ◌∷◌, ℕ, suc, ◌+◌, ◌/◌, ◌%◌, eqb, get_or}
use Rattle.verdicts.specs.Facts.{Condition, any_row, locatable, whole, numeric, points, Kind, itself, through, Naming, caf_meets}

-- a naming but for its key: the column, the kind of row that it asks for, and whether circles are sought through it
pub record Manner : Type 0 where
  pub column : ℕ
  pub kind : Kind
  pub chained : Bool

abbrev pub manner_of : Naming → Manner
manner_of n = record { column = n.column; kind = n.kind; chained = n.chained }

abbrev asking : ℕ → Kind → Manner
asking column kind = record { column = column; kind = kind; chained = false }

-- of a row that names nothing
abbrev pub no_manner : Manner
no_manner = asking 0 (itself any_row)

-- the second row that is asked about, so far by ocf alone: the column that names it, and the condition on it
abbrev pub second_column : ℕ
second_column = 12

abbrev pub second_condition : Condition
second_condition = points

-- the weight of what is asked of a second row in the sum of what a row meets: one that no condition has
abbrev pub second_weight : ℕ
second_weight = 32

-- all manners, by their code from 0; what a new table adds comes last
unfoldable pub manners : List Manner
manners =
    no_manner
    -- 1, 2: plf NAME and SPID
    ∷ asking 1 (itself locatable)
    ∷ asking 2 (itself any_row)
    -- 3, 4: pcf VALID and CURTX
    ∷ record { column = 8; kind = itself whole; chained = true }
    ∷ asking 12 (itself any_row)
    -- 5: txp NUMBR, ocp NAME
    ∷ asking 1 (itself any_row)
    -- 6, 7: ocf NAME, and the same under INTER C
    ∷ asking 1 (itself numeric)
    ∷ asking 4 (through second_column second_condition)
    -- 8: ocp RLCHK
    ∷ asking 6 (itself whole)
    -- 9: cap NUMBR
    ∷ asking 1 (itself points)
    ∷ []

-- a code past the list's end is none
unfoldable pub manner_at : ℕ → Manner
manner_at code = get_or manners code no_manner

-- the weight of a condition in the sum of those that a row meets
unfoldable pub weight : Condition → ℕ
weight any_row = 1
weight locatable = 2
weight whole = 4
weight numeric = 8
weight points = 16

-- the weight of a kind in the same sum
abbrev pub kind_weight : Kind → ℕ
kind_weight (itself c) = weight c
kind_weight (through column c) = cond (eqb column second_column && eqb (weight c) (weight second_condition)) second_weight 0

-- a test as a number
abbrev pub bit : Bool → ℕ
bit test = cond test 1 0

unfoldable pub same_manner : Manner → Manner → Bool
same_manner m l = eqb m.column l.column && (eqb (kind_weight m.kind) (kind_weight l.kind) && eqb (bit m.chained) (bit l.chained))

-- the place of a manner in a list of them that starts with a code; 0 where it isn't there
unfoldable pub code_from : ℕ → List Manner → Manner → ℕ
code_from code [] m = 0
code_from code (l ∷ ls) m = cond (same_manner m l) code (code_from (suc code) ls m)

unfoldable pub code_of : Manner → ℕ
code_of m = code_from 0 manners m

-- the mark of a condition that a row meets
abbrev pub mark : Bool → ℕ → ℕ
mark met weight = cond met weight 0

abbrev mark_of : (Condition → Bool) → Condition → ℕ
mark_of meets c = mark (meets c) (weight c)

-- all marks of a row, by the conditions that it meets
unfoldable pub marks_of : (Condition → Bool) → ℕ
marks_of meets = mark_of meets any_row + mark_of meets locatable + mark_of meets whole + mark_of meets numeric + mark_of meets points

-- a row with these marks meets the condition, or is of the kind, of this weight
unfoldable pub is_met_by : ℕ → ℕ → Bool
is_met_by marks weight = eqb (marks / weight % 2) 1

-- what a naming of this manner found, a row with these marks, is the second row that is asked about
unfoldable pub is_second : (code marks : ℕ) → Bool
is_second code marks = eqb (manner_at code).column second_column && is_met_by marks (weight second_condition)

-- the marks of a row by the conditions that it meets, with that of a second row or without
unfoldable pub with_second : (marks : ℕ) → Bool → ℕ
with_second marks second = marks % second_weight + mark second second_weight

pub record Examples : Type 0 where
  pub valid : code_of (manner_at 3) ≡ 3
  pub last : code_of (manner_at 9) ≡ 9
  pub foreign : code_of (asking 5 (itself whole)) ≡ 0
  pub second_row : code_of (asking 4 (through second_column second_condition)) ≡ 7
  pub foreign_second : code_of (asking 4 (through 8 any_row)) ≡ 0
  pub met : is_met_by 21 (weight whole) ≡ true
  pub unmet : is_met_by 21 (weight locatable) ≡ false
  -- a caf row has marks 17, an mcf row 1
  pub caf : marks_of caf_meets ≡ 17
  pub curtx : is_second 4 17 ≡ true
  pub polynomial : is_second 4 1 ≡ false
  pub no_curtx : is_second 3 17 ≡ false
  pub marked : with_second 5 true ≡ 37

pub examples : Examples
unfolding manners manner_at weight same_manner code_from code_of marks_of is_met_by is_second with_second
examples =
    record {
      valid = refl;
      last = refl;
      foreign = refl;
      second_row = refl;
      foreign_second = refl;
      met = refl;
      unmet = refl;
      caf = refl;
      curtx = refl;
      polynomial = refl;
      no_curtx = refl;
      marked = refl;
    }
