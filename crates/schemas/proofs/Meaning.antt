-- What a row without reasons 1 to 7 is, and a column without reasons 4 to 7.
use mathlib.Core.Path.{◌≡◌, refl, sym, ◌∙◌}
use mathlib.Core.List.{List, [], ◌∷◌}
use mathlib.Core.Bool.{Bool, true, false, not, cond, ◌||◌, ◌&&◌}
use mathlib.Core.Option.{Option, some, none}
use mathlib.Core.Logic.{◌⊎◌, inl, inr, ⊎_elim}
use Prim.Native.Nat.{ℕ, zero, suc, ◌+◌, ◌*◌, ◌≤◌, ◌<◌}
use native.Mathlib.Omega.{arith}
use lib.Dec.{eqb, ltb}
use lib.IntN.{ℤ}
use lib.ListN.{length, get_or}
use lib.Signed.{le_z}
use borrow.Author.Tests.{eq-eqb, eqb-true, eqb-false, le-ltb, ltb-false, not-false}
use Rattle.laws.proofs.Cases.{bool_cases, false≢true, and_left, and_right}
use Rattle.numbers.specs.Number.{number_of}
use Rattle.number_positions.specs.Positions.{no_digits}
use Rattle.lines.specs.Lines.{Line}
use Rattle.lines.specs.Columns.{columns_of, column_at, foreign_in}
use Rattle.column_checks.specs.Schema.{a_number, a_letter, Column, text}
use Rattle.schemas.specs.Reasons.{or_later, first_reason, shape}
use Rattle.column_checks.specs.ColumnReasons.{is_in, listed, number_reason, kind_reason, column_reason}

-- ---- a choice that is 0

-- where the first of two numbers isn't 0, the second was chosen
second : (t : Bool) {a b : ℕ} → (a ≡ 0 → ⊥) → cond t a b ≡ 0 → (t ≡ false) × (b ≡ 0)
second true n e = absurd (n e)
second false n e = (refl, e)

neither : (a b : Bool) → (a || b) ≡ false → (a ≡ false) × (b ≡ false)
neither true b e = absurd (false≢true (sym e))
neither false b e = (refl, e)

-- no reason, and none later
no_reason : (r k later : ℕ) → or_later r k later ≡ 0 → (r ≡ 0) × (later ≡ 0)
no_reason r k later e =
    bool_cases (eqb r 0)
    (λ t. (eqb-true r 0 t, rw t at e))
    (λ f. let z : r * 256 + k ≡ 0 = rw f at e in absurd (eqb-false r 0 f (omega arith)))

-- ---- a row

-- a row of these columns that reasons 1 to 7 pass over
pub record Shaped (columns : List Column) (line : Line) : Type 0 where
  pub ended : line.ended ≡ true
  pub short : length line.bytes ≤ 512
  pub clean : foreign_in line.bytes ≡ false
  pub counted : length (columns_of line.bytes) ≡ length columns
  pub fine : (k : ℕ) → k < length columns → column_reason (get_or columns k (text 0)) (column_at (columns_of line.bytes) k) ≡ 0

each_fine : (n : ℕ) (columns : List Column) (texts : List (List ℕ)) → length texts ≡ length columns → first_reason n columns texts ≡ 0
    → (k : ℕ) → k < length columns → column_reason (get_or columns k (text 0)) (column_at texts k) ≡ 0
unfolding first_reason
each_fine n [] texts l e k h = absurd (omega arith)
each_fine n (c ∷ cs) [] l e k h = absurd (omega arith)
each_fine n (c ∷ cs) (t ∷ ts) l e zero h = (no_reason (column_reason c t) n (first_reason (suc n) cs ts) e).0
each_fine n (c ∷ cs) (t ∷ ts) l e (suc k) h =
    each_fine (suc n) cs ts (omega arith) (no_reason (column_reason c t) n (first_reason (suc n) cs ts) e).1 k (omega arith)

none_first : (n : ℕ) (columns : List Column) (texts : List (List ℕ))
    → ((k : ℕ) → k < length columns → column_reason (get_or columns k (text 0)) (column_at texts k) ≡ 0) → first_reason n columns texts ≡ 0
unfolding first_reason
none_first n [] texts f = refl
none_first n (c ∷ cs) [] f = refl
none_first n (c ∷ cs) (t ∷ ts) f =
    let z : column_reason c t ≡ 0 = f 0 (omega arith) in
    rw z (none_first (suc n) cs ts (λ k h. f (suc k) (omega arith)))

-- a row without a reason is ended, short, clean, of the right number of columns, each without a reason
pub shaped : (columns : List Column) (line : Line) → shape columns line ≡ 0 → Shaped columns line
unfolding shape
shaped columns line e =
    let first = second (not line.ended || ltb 512 (length line.bytes)) (λ z. omega arith) e in
    let next = second (foreign_in line.bytes) (λ z. omega arith) first.1 in
    let last = second (not (eqb (length (columns_of line.bytes)) (length columns))) (λ z. omega arith) next.1 in
    let line-ends = neither (not line.ended) (ltb 512 (length line.bytes)) first.0 in
    let n = eqb-true (length (columns_of line.bytes)) (length columns) (not-false _ last.0) in
    record {
      ended = not-false line.ended line-ends.0;
      short = ltb-false 512 (length line.bytes) line-ends.1;
      clean = next.0;
      counted = n;
      fine = each_fine 1 columns (columns_of line.bytes) n last.1;
    }

-- and such a row has none
pub shaped_back : (columns : List Column) (line : Line) → Shaped columns line → shape columns line ≡ 0
unfolding shape
shaped_back columns line s =
    rw (s.ended, le-ltb 512 (length line.bytes) s.short, s.clean, eq-eqb (length (columns_of line.bytes)) (length columns) s.counted)
    (none_first 1 columns (columns_of line.bytes) s.fine)

-- ---- a column

-- a text that isn't empty, isn't too wide, and is of the column's kind
pub record Given (c : Column) (t : List ℕ) : Type 0 where
  pub some_bytes : 0 < length t
  pub narrow : length t ≤ c.width
  pub kind_fits : kind_reason c.kind t ≡ 0

-- an empty text in a column that isn't mandatory
pub record Absent (c : Column) (t : List ℕ) : Type 0 where
  pub empty : t ≡ []
  pub optional : c.mandatory ≡ false

-- a column without a reason is absent where it may be, or given as it must be
pub column_fine : (c : Column) (t : List ℕ) → column_reason c t ≡ 0 → Absent c t ⊎ Given c t
unfolding column_reason
column_fine c [] e = inl (record { empty = refl; optional = (second c.mandatory (λ z. omega arith) e).0 })
column_fine c (b ∷ bs) e =
    let p = second (ltb c.width (length (b ∷ bs))) (λ z. omega arith) e in
    inr (record { some_bytes = omega arith; narrow = ltb-false c.width (length (b ∷ bs)) p.0; kind_fits = p.1 })

absent_fine : (c : Column) (t : List ℕ) → Absent c t → column_reason c t ≡ 0
unfolding column_reason
absent_fine c t a = rw (a.empty, a.optional)

given_fine : (c : Column) (t : List ℕ) → Given c t → column_reason c t ≡ 0
unfolding column_reason
given_fine c [] g = absurd (omega arith)
given_fine c (b ∷ bs) g = rw (le-ltb c.width (length (b ∷ bs)) g.narrow) g.kind_fits

-- and either has none
pub column_fine_back : (c : Column) (t : List ℕ) → Absent c t ⊎ Given c t → column_reason c t ≡ 0
column_fine_back c t = ⊎_elim (absent_fine c t) (given_fine c t)

-- in either case the text is no wider than the column
pub fine_narrow : (c : Column) (t : List ℕ) → column_reason c t ≡ 0 → length t ≤ c.width
unfolding column_reason
fine_narrow c [] e = omega arith
fine_narrow c (b ∷ bs) e = ltb-false c.width (length (b ∷ bs)) (second (ltb c.width (length (b ∷ bs))) (λ z. omega arith) e).0

-- and a mandatory column isn't empty
pub fine_filled : (c : Column) (t : List ℕ) → column_reason c t ≡ 0 → c.mandatory ≡ true → 0 < length t
unfolding column_reason
fine_filled c [] e m = absurd (false≢true (sym (second c.mandatory (λ z. omega arith) e).0 ∙ m))
fine_filled c (b ∷ bs) e m = omega arith

-- ---- a column's kind

-- a number from lowest to highest
pub record InRange (lowest highest : ℤ) (n : Option ℤ) : Type 0 where
  pub value : ℤ
  pub is : n ≡ some value
  pub low : le_z lowest value ≡ true
  pub high : le_z value highest ≡ true

number_inside : (lowest highest : ℤ) (bare : Bool) (n : Option ℤ) → number_reason lowest highest bare n ≡ 0 → InRange lowest highest n
unfolding number_reason
number_inside lowest highest true none e = absurd (omega arith)
number_inside lowest highest false none e = absurd (omega arith)
number_inside lowest highest bare (some v) e =
    bool_cases (le_z lowest v && le_z v highest)
    (λ t. record { value = v; is = refl; low = and_left (le_z lowest v) (le_z v highest) t; high = and_right (le_z lowest v) (le_z v highest) t })
    (λ f. let z : ◌≡◌ {A = ℕ} 7 0 = rw f at e in absurd (omega arith))

-- a text of the kind of numbers is a number in the range
pub number_fine : (lowest highest : ℤ) (t : List ℕ) → kind_reason (a_number lowest highest) t ≡ 0 → InRange lowest highest (number_of t)
unfolding kind_reason
number_fine lowest highest t e = number_inside lowest highest (no_digits t) (number_of t) e

-- one byte, which is one of the letters
pub record OneOf (letters t : List ℕ) : Type 0 where
  pub letter : ℕ
  pub is : t ≡ letter ∷ []
  pub among : is_in letter letters ≡ true

one_of : (letters t : List ℕ) → listed letters t ≡ true → OneOf letters t
unfolding listed
one_of letters [] e = absurd (false≢true e)
one_of letters (b ∷ []) e = record { letter = b; is = refl; among = e }
one_of letters (b ∷ c ∷ bs) e = absurd (false≢true e)

-- a text of the kind of letters is one letter of the list
pub letter_fine : (letters t : List ℕ) → kind_reason (a_letter letters) t ≡ 0 → OneOf letters t
unfolding kind_reason
letter_fine letters t e =
    bool_cases (listed letters t)
    (λ l. one_of letters t l)
    (λ f. let z : ◌≡◌ {A = ℕ} 14 0 = rw f at e in absurd (omega arith))
