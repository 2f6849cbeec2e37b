-- What a well-formed row is, and what its columns say.
use mathlib.Core.Path.{◌≡◌, refl, sym, ◌∙◌}
use mathlib.Core.List.{List, [], ◌∷◌}
use mathlib.Core.Bool.{true}
use mathlib.Core.Option.{some}
use Prim.Native.Nat.{ℕ, ◌+◌, ◌^◌, ◌≤◌, ◌<◌}
use native.Mathlib.Omega.{arith}
use native.Mathlib.Nat.{le_trans}
use lib.Dec.{eqb, ltb}
use lib.IntN.{ℤ, pos, negsuc, nat_abs}
use lib.Signed.{le_z}
use lib.ListN.{length, get_or, replicate}
use borrow.Author.Tests.{eqb-true, eqb-false, lt-ltb, ltb-true, ltb-false, leb-true}
use Rattle.laws.proofs.Cases.{bool_cases, false≢true, and_both}
use Rattle.numbers.specs.Number.{number_of}
use Rattle.numbers.proofs.Answers.{large_outside}
use Rattle.lines.specs.Lines.{Line}
use Rattle.schemas.specs.declared.Table.{Table}
use Rattle.schemas.specs.declared.Table.TheVariants.{Plf, Pcf, Caf, Cap, Txf, Txp, Ocf, Ocp, Mcf}
use Rattle.column_checks.specs.Schema.{a_number, text}
use Rattle.schemas.specs.Tables.{schema, plf, pcf, caf, cap, txf, txp, ocf, ocp, mcf}
use Rattle.schemas.specs.Reasons.{shape}
use Rattle.column_checks.specs.ColumnReasons.{kind_reason, column_reason}
use Rattle.schemas.proofs.Meaning.{shaped, fine_narrow, fine_filled, number_fine}
use Rattle.rows.specs.Values.{natural_from, natural_or, integer_from, integer_or}
use Rattle.decoding.specs.Records.{column}
use Rattle.contradictions.specs.Contradictions.{contradiction}
use Rattle.formed.specs.Formed.{or_contradiction, formed}

-- ---- a row

-- a row without reasons 1 to 7 whose columns don't contradict each other
pub record WellFormed (table : Table) (line : Line) : Type 0 where
  pub in_shape : shape (schema table) line ≡ 0
  pub agreeing : contradiction table line.bytes ≡ 0

both_none : (s c : ℕ) → or_contradiction s c ≡ 0 → (s ≡ 0) × (c ≡ 0)
unfolding or_contradiction
both_none s c e =
    bool_cases (eqb s 0)
    (λ t. bool_cases (eqb c 0)
    (λ u. (eqb-true s 0 t, eqb-true c 0 u))
    (λ f. let z : 2048 + c ≡ 0 = rw (t, f) at e in absurd (omega arith)))
    (λ f. let z : s ≡ 0 = rw f at e in absurd (eqb-false s 0 f z))

-- a verdict of 0 says that the row is well-formed
pub formed_well : (table : Table) (line : Line) → formed table line ≡ 0 → WellFormed table line
unfolding formed
formed_well table line e =
    let p = both_none (shape (schema table) line) (contradiction table line.bytes) e in
    record { in_shape = p.0; agreeing = p.1 }

-- and a well-formed row has it
pub formed_back : (table : Table) (line : Line) → WellFormed table line → formed table line ≡ 0
unfolding formed or_contradiction
formed_back table line w = rw (w.in_shape, w.agreeing)

-- ---- its columns

module _ (table : Table) (line : Line) (e : formed table line ≡ 0) (k : ℕ) (h : k < length (schema table)) where
  -- a column of a well-formed row has no reason
  pub column_passes : column_reason (get_or (schema table) k (text 0)) (column line.bytes k) ≡ 0
  unfolding column
  column_passes = (shaped (schema table) line (formed_well table line e).in_shape).fine k h

  -- a column that is n wide is at most n bytes long: a name's 8, or a curve's name's 10
  pub at_most : (n : ℕ) → (get_or (schema table) k (text 0)).width ≤ n → length (column line.bytes k) ≤ n
  at_most n w = le_trans (fine_narrow (get_or (schema table) k (text 0)) (column line.bytes k) column_passes) w

  -- a mandatory column isn't empty
  pub not_empty : (get_or (schema table) k (text 0)).mandatory ≡ true → 0 < length (column line.bytes k)
  not_empty m = fine_filled (get_or (schema table) k (text 0)) (column line.bytes k) column_passes m

abbrev width_at : Table → ℕ → ℕ
width_at table k = (get_or (schema table) k (text 0)).width

-- the columns that hold names are 8 wide: NAME, pcf's VALID and ocp's RLCHK
pub name_widths : (width_at Plf 0 ∷ width_at Pcf 0 ∷ width_at Pcf 7 ∷ width_at Ocf 0 ∷ width_at Ocp 0 ∷ width_at Ocp 5 ∷ []) ≡ replicate 6 8
unfolding schema plf pcf ocf ocp
name_widths = refl

-- and those that hold curves' names 10: NUMBR, IDENT, and pcf's CURTX
pub curve_widths : (width_at Pcf 11 ∷ width_at Caf 0 ∷ width_at Cap 0 ∷ width_at Txf 0 ∷ width_at Txp 0 ∷ width_at Mcf 0 ∷ []) ≡ replicate 6 10
unfolding schema pcf caf cap txf txp mcf
curve_widths = refl

-- ---- its numbers

-- a number from 0 to 4,294,967,295 is what the column says, whatever the default
pub natural_exact : (default n : ℕ) (t : List ℕ) → number_of t ≡ some (pos n) → n < 2 ^ 32 → natural_or default t ≡ n
unfolding natural_or natural_from
natural_exact default n t e h = rw (e, lt-ltb n (2 ^ 32) h)

-- a number below 2 ^ 60 in magnitude is what the column says, whatever the default
pub integer_exact : (default v : ℤ) (t : List ℕ) → number_of t ≡ some v → nat_abs v < 2 ^ 60 → integer_or default t ≡ v
unfolding integer_or integer_from
integer_exact default v t e h = rw (e, lt-ltb (nat_abs v) (2 ^ 60) h)

-- a text of a column of numbers from lowest to highest, both natural: the number it is, which is what the column says
pub record Natural (lowest highest default : ℕ) (t : List ℕ) : Type 0 where
  pub number : ℕ
  pub is : number_of t ≡ some (pos number)
  pub low : lowest ≤ number
  pub high : number ≤ highest
  pub says : natural_or default t ≡ number

natural_inside : (lowest highest default : ℕ) (t : List ℕ) → highest < 2 ^ 32 → (v : ℤ) → number_of t ≡ some v → le_z (pos lowest) v ≡ true
    → le_z v (pos highest) ≡ true → Natural lowest highest default t
natural_inside lowest highest default t b (pos n) e l h =
    let m : n ≤ highest = leb-true n highest h in
    record { number = n; is = e; low = leb-true lowest n l; high = m; says = natural_exact default n t e (omega arith) }
natural_inside lowest highest default t b (negsuc n) e l h = absurd (false≢true l)

pub natural_column : (lowest highest default : ℕ) (t : List ℕ) → highest < 2 ^ 32 → kind_reason (a_number (pos lowest) (pos highest)) t ≡ 0
    → Natural lowest highest default t
natural_column lowest highest default t b e =
    let r = number_fine (pos lowest) (pos highest) t e in
    natural_inside lowest highest default t b r.value r.is r.low r.high

-- the same of integers, whose ends are below 2 ^ 60 in magnitude
pub integer_column : (lowest highest default : ℤ) (t : List ℕ) → nat_abs lowest < 2 ^ 60 → nat_abs highest < 2 ^ 60
    → (e : kind_reason (a_number lowest highest) t ≡ 0) → integer_or default t ≡ (number_fine lowest highest t e).value
integer_column lowest highest default t p q e =
    let r = number_fine lowest highest t e in
    bool_cases (ltb (nat_abs r.value) (2 ^ 60))
    (λ y. integer_exact default r.value t r.is (ltb-true (nat_abs r.value) (2 ^ 60) y))
    (λ n. absurd (false≢true (sym (large_outside lowest r.value highest p q (ltb-false (nat_abs r.value) (2 ^ 60) n)) ∙ and_both r.low r.high)))
