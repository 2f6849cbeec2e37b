-- A curve by its rows.
use Rattle.std.specs.Prelude.{◌≡◌, refl, cond, List, [], ◌∷◌, ◌++◌, map, ℕ, ℤ, pos, negsuc, Some, None}
use Rattle.std.specs.Prelude as rust
use Rattle.std.proofs.Math.Option.{Option, none, some}
use Rattle.laws.specs.Text.{ascii}
use Rattle.name_bytes.specs.Names.{curve_name_of, same_bytes}
use Rattle.lines.specs.Columns.{tab, columns_from, columns_of}
use Rattle.name_bytes.specs.declared.CurveName.{CurveName}
use Rattle.numbers.specs.Number.{number_of, meaning, spelt, after, digit_on, digit_of}
use Rattle.rows.specs.Values.{integer_from, integer_or, letter_of, off_ends_of}
use Rattle.decoding.specs.Records.{column, caf_row, cap_row}
use Rattle.rows.specs.declared.letters.OffEnds.{OffEnds}
use Rattle.rows.specs.declared.letters.OffEnds.TheVariants.{Extrapolate, Refuse}
use Rattle.verdicts.specs.Key.{key_words, same_key, curve}
use Rattle.verdicts.specs.Facts.{caf_facts, cap_facts, facts_of}
use Rattle.database.specs.Rows.{Row, Rows}
use Rattle.database.specs.GoodRows.{holds_key, is_in_group, find, among}
use Rattle.database.specs.Kinds.{is_polynomial}

-- what it does off its ends, and the X and the Y of its points, in any order
pub record Curve : Type 0 where
  pub ends : OffEnds
  pub xs : List ℤ
  pub ys : List ℤ

-- 01: "CAF_INTER governs"; a polynomial has no points, and no ends
unfoldable pub curve_ends : Option Row → rust.Option OffEnds
curve_ends none = None
curve_ends (some row) = cond (is_polynomial row) None (Some (caf_row row.bytes).inter)

unfoldable pub xvals_of : Row → ℤ
xvals_of row = (cap_row row.bytes).xvals

unfoldable pub yvals_of : Row → ℤ
yvals_of row = (cap_row row.bytes).yvals

unfoldable pub curve_by : rust.Option OffEnds → (xs ys : List ℤ) → Option Curve
curve_by None xs ys = none
curve_by (Some ends) xs ys = some (record { ends = ends; xs = xs; ys = ys })

-- 01: "NCURVE counts cap rows": these are its points
unfoldable pub curve_of : Rows → CurveName → Option Curve
curve_of rows name =
    let points : List Row = rows.members (curve name) in curve_by (curve_ends (rows.holder (curve name))) (map xvals_of points) (map yvals_of points)

-- the rows of a curve C through (0,0) and (10,-5), with this INTER
abbrev pub of_two : List ℕ → Rows
of_two inter =
    among (
    record { table = 4; number = 1; start = 0; bytes = ascii "C" ++ tab ∷ tab ∷ ascii "I" ++ tab ∷ ascii "I" ++ tab ∷ tab ∷ tab ∷ ascii "2" ++ tab ∷ inter }
    ∷ record { table = 5; number = 1; start = 0; bytes = ascii "C" ++ tab ∷ ascii "0" ++ tab ∷ ascii "0" }
    ∷ record { table = 5; number = 2; start = 6; bytes = ascii "C" ++ tab ∷ ascii "10" ++ tab ∷ ascii "-5" }
    ∷ []
    )

pub record Examples : Type 0 where
  pub points : curve_of (of_two (ascii "P")) (curve_name_of (ascii "C"))
      ≡ some (record { ends = Extrapolate; xs = pos 0 ∷ pos 10 ∷ []; ys = pos 0 ∷ negsuc 4 ∷ [] })
  -- an empty INTER is F
  pub by_default : curve_of (of_two []) (curve_name_of (ascii "C")) ≡ some (record { ends = Refuse; xs = pos 0 ∷ pos 10 ∷ []; ys = pos 0 ∷ negsuc 4 ∷ [] })
  pub other : curve_of (of_two []) (curve_name_of (ascii "D")) ≡ none
  -- a row of mcf
  pub polynomial : curve_ends (some (record { table = 10; number = 1; start = 0; bytes = ascii "C" })) ≡ None

pub examples : Examples
unfolding
    curve_of curve_by curve_ends is_polynomial xvals_of yvals_of among find holds_key is_in_group facts_of caf_facts cap_facts same_key key_words same_bytes curve_name_of
    caf_row cap_row column columns_of columns_from off_ends_of letter_of integer_or integer_from number_of meaning spelt after digit_on digit_of
examples = record { points = refl; by_default = refl; other = refl; polynomial = refl }
