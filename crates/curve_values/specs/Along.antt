-- The value along a curve.
use Rattle.std.specs.Prelude.{◌≡◌, refl, List, [], ℕ, ℤ, pos, negsuc, Err}
use Rattle.std.proofs.Math.Option.{Option, none, some}
use Rattle.laws.specs.Said.{Said, value, refused as refused_with, free}
use Rattle.laws.specs.Text.{ascii}
use Rattle.name_bytes.specs.Names.{curve_name_of, same_bytes}
use Rattle.lines.specs.Columns.{columns_from, columns_of}
use Rattle.numbers.specs.Number.{number_of, meaning, spelt, after, digit_on, digit_of}
use Rattle.rows.specs.Values.{integer_from, integer_or, letter_of, off_ends_of}
use Rattle.decoding.specs.Records.{column, caf_row, cap_row}
use Rattle.curves.specs.Floor.{floor_div}
use Rattle.curves.specs.Line.{is_between, is_coordinate, is_point, is_segment, is_raw, height_at, result_of, line_at}
use Rattle.calibration.specs.Nearest.{passes, nearer, closer, better, nearest_of, not_above, below, above}
use Rattle.calibration.specs.Curve.{point_numbered, through, off_end, from_last, before_first, placed, curve_at}
use Rattle.verdicts.specs.Key.{key_words, same_key}
use Rattle.verdicts.specs.Facts.{caf_facts, cap_facts, facts_of}
use Rattle.outcomes.specs.Outcome.{Outcome, answer, refused}
use Rattle.outcomes.specs.Refusals.{refusal_number as numberOfRefusal, refusal_place, refused_by, said}
use Rattle.outcomes.specs.declared.Refusal.TheVariants.{OutOfRange}
use Rattle.database.specs.GoodRows.{holds_key, is_in_group, find, among}
use Rattle.database.specs.Kinds.{is_polynomial}
use Rattle.curve_points.specs.Curves.{Curve, curve_ends, xvals_of, yvals_of, curve_by, curve_of, of_two}

-- two points that make no line, which no good rows are, are as no curve
unfoldable pub outcome_of : Said → Outcome ℤ
outcome_of (value z) = answer z
outcome_of (refused_with number) = refused number 0
outcome_of free = refused 30 0

-- 01: "30, 31 … raw value off an F curve; curve result outside −2,147,483,648 to 2,147,483,647".
-- A good row's curve is there; without one every raw value is off it
unfoldable pub along : Option Curve → ℤ → Outcome ℤ
along none raw = refused 30 0
along (some c) raw = outcome_of (curve_at c.ends c.xs c.ys raw)

-- a curve C through (0,0) and (10,-5), with this INTER
abbrev along_at : (inter : List ℕ) → (name : List ℕ) → ℤ → Outcome ℤ
along_at inter name raw = along (curve_of (of_two inter) (curve_name_of name)) raw

-- 3 gives -3/2 and so -2; off the ends F refuses, as an empty INTER does
pub record Examples : Type 0 where
  pub between : along_at (ascii "F") (ascii "C") (pos 3) ≡ answer (negsuc 1)
  pub past_p : along_at (ascii "P") (ascii "C") (pos 20) ≡ answer (negsuc 9)
  pub past_f : along_at (ascii "F") (ascii "C") (pos 20) ≡ refused 30 0
  pub past_default : along_at [] (ascii "C") (pos 20) ≡ refused 30 0
  pub other : along_at (ascii "P") (ascii "D") (pos 3) ≡ refused 30 0
  pub range : said {A = ℤ} (Err OutOfRange) ≡ refused 31 0

pub examples : Examples
unfolding
    along outcome_of said refused_by numberOfRefusal refusal_place
    curve_of curve_by curve_ends is_polynomial xvals_of yvals_of among find holds_key is_in_group facts_of caf_facts cap_facts same_key key_words same_bytes curve_name_of
    caf_row cap_row column columns_of columns_from off_ends_of letter_of integer_or integer_from number_of meaning spelt after digit_on digit_of
    curve_at placed from_last before_first off_end through point_numbered not_above below above nearest_of better closer nearer passes
    line_at is_segment is_point is_coordinate is_raw is_between result_of height_at floor_div
examples = record { between = refl; past_p = refl; past_f = refl; past_default = refl; other = refl; range = refl }
