-- The position in a column of a line by where its columns end, and how long a position can be.
use mathlib.Core.Path.{◌≡◌, refl, sym, ap, ◌∙◌}
use mathlib.Core.Bool.{Bool, true, false, not, cond, ◌||◌}
use mathlib.Core.List.{List, [], ◌∷◌, ◌++◌}
use Prim.Native.Nat.{ℕ, zero, suc, ◌+◌, ◌-◌, ◌/◌, ◌%◌, ◌≤◌}
use native.Mathlib.Omega.{arith}
use lib.Dec.{eqb, ltb}
use lib.ListN.{length, get_or, length-append}
use borrow.Author.Tests.{eqb-true, eqb-false, ltb-true, ltb-false}
use Rattle.laws.proofs.Cases.{bool_cases, false≢true}
use Rattle.lines.specs.Lines.{Line}
use Rattle.lines.specs.Columns.{tab, columns_from, columns_of, divided, column_in}
use Rattle.lines.proofs.ColumnLaws.{column_is}
use Rattle.schemas.specs.declared.Table.{Table}
use Rattle.column_checks.specs.Schema.{Column}
use Rattle.schemas.specs.Tables.{schema}
use Rattle.schemas.specs.Reasons.{shape}
use Rattle.schemas.specs.Positions.{position_in, tells_position, kind_of}
use Rattle.schemas.proofs.Meaning.{shaped}
use Rattle.schemas.proofs.PositionLaws.{position_most, no_kind}
use Rattle.decoding.specs.Records.{column}
use Rattle.contradictions.specs.Contradictions.{contradiction}
use Rattle.formed.specs.Formed.{formed}
use Rattle.formed.proofs.FormedLaws.{shaped_first}
use Rattle.verdicts.specs.Positions.{position_by, row_position}

-- a column that isn't among those whose ends are told has no position
pub position_divided : (table : Table) (line ends : List ℕ) (k : ℕ) → ends ≡ divided line
    → position_in (kind_of table k) (column_in line ends k) ≡ position_in (kind_of table k) (column line k)
unfolding column
position_divided table line ends k e =
    bool_cases (ltb k 24)
    (λ t. ap (position_in (kind_of table k)) (column_is line ends k e (ltb-true k 24 t)))
    (λ f. let h : 24 ≤ k = ltb-false k 24 f in no_kind table k _ h ∙ sym (no_kind table k _ h))

-- a column is no longer than its line
column_within : (c bs : List ℕ) (k : ℕ) → length (get_or (columns_from c bs) k []) ≤ length c + length bs
unfolding columns_from
column_within c [] zero = omega arith
column_within c [] (suc k) = omega arith
column_within c (b ∷ bs) k = go (eqb b tab) k (λ j. column_within [] bs j) (column_within (c ++ b ∷ []) bs k)
  where
    go : (t : Bool) (k : ℕ) → ((j : ℕ) → length (get_or (columns_from [] bs) j []) ≤ length {A = ℕ} [] + length bs)
        → length (get_or (columns_from (c ++ b ∷ []) bs) k []) ≤ length (c ++ b ∷ []) + length bs
        → length (get_or (cond t (c ∷ columns_from [] bs) (columns_from (c ++ b ∷ []) bs)) k []) ≤ length c + length (b ∷ bs)
    go true zero here on = omega arith
    go true (suc k) here on = omega (arith, here k)
    go false k here on = omega (arith, length-append c (b ∷ []))

-- a row that is too long has reason 1
long_first : (columns : List Column) (line : Line) → ltb 512 (length line.bytes) ≡ true → shape columns line ≡ 256
unfolding shape
long_first columns line t = rw (t, or_true (not line.ended))
  where
    or_true : (b : Bool) → (b || true) ≡ true
    or_true true = refl
    or_true false = refl

-- so one with reason 6 or 13 isn't
tells_short : (table : Table) (line : Line) → tells_position (formed table line / 256) ≡ true → length line.bytes ≤ 512
unfolding formed
tells_short table line t =
    bool_cases (eqb (shape (schema table) line) 0)
    (λ z. (shaped (schema table) line (eqb-true _ 0 z)).short)
    (λ z. bool_cases (ltb 512 (length line.bytes))
    (λ l. let e : formed table line ≡ 256 = sym (shaped_first _ (contradiction table line.bytes) (eqb-false _ 0 z)) ∙ long_first (schema table) line l in
    absurd (false≢true (rw e at t)))
    (λ l. ltb-false 512 _ l))

pub position_low : (table : Table) (line : Line) → row_position table line ≤ 65535
unfolding row_position position_by column columns_of
position_low table line =
    let v : ℕ = formed table line in
    let k : ℕ = v % 256 - 1 in
    bool_cases (tells_position (v / 256))
    (λ t. let text : List ℕ = get_or (columns_from [] line.bytes) k [] in
    rw t (omega (arith, tells_short table line t, position_most (kind_of table k) text, column_within [] line.bytes k)))
    (λ f. rw f (omega arith))
