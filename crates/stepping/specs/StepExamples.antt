-- Limit steps over small tables, computed.
use Rattle.std.specs.Prelude.{ℕ, ◌≡◌, refl, true, false, cond, [], ◌∷◌, map, eqb}
use Prim.Native.String.{String}
use Rattle.laws.specs.Text.{ascii, char}
use Rattle.numbers.specs.Number.{number_of, meaning, spelt, after, digit_on, digit_of}
use Rattle.lines.specs.Columns.{columns_of, columns_from}
use Rattle.name_bytes.specs.Names.{name_of, curve_name_of, same_bytes, same_name, same_curve_name}
use Rattle.rows.specs.Values.{
  natural_from,
  natural_or,
  integer_from,
  integer_or,
  letter_of,
  is_given,
  optional_name,
  optional_curve,
  valid_of,
  category_of,
  nature_of,
  format_of,
  off_ends_of,
  limit_value_of,
  limit_coding_of,
  check_type_of,
}
use Rattle.decoding.specs.Records.{column, pid_row, plf_row, pcf_row, caf_row, cap_row, ocf_row, ocp_row}
use Rattle.widths.specs.Width.{width_of, integer_width, bits_within}
use Rattle.fields.specs.Bits.{bit_at, number_at}
use Rattle.fields.specs.Place.{bit_inside, inside}
use Rattle.fields.specs.Field.{is_width, field_at, unsigned_at}
use Rattle.fields.specs.Sign.{complement_of, signed_at}
use Rattle.fields.specs.Figures.{packet}
use Rattle.curves.specs.Floor.{floor_div}
use Rattle.curves.specs.Line.{is_between as lies, is_coordinate, is_point, is_segment, is_raw, height_at, result_of, line_at}
use Rattle.calibration.specs.Nearest.{passes, nearer, closer, better, nearest_of, not_above, below, above}
use Rattle.calibration.specs.Curve.{point_numbered, through, off_end, from_last, before_first, placed, curve_at}
use Rattle.headers.specs.Header.{version, type_bit, flagged, apid, sequence_count, length_field, head_of}
use Rattle.outcomes.specs.Outcome.{Outcome, refused, answer, and_then}
use Rattle.verdicts.specs.Key.{key_words, same_key}
use Rattle.verdicts.specs.Facts.{facts_of, pid_keys, pid_facts, plf_facts, pcf_facts, caf_facts, cap_facts, ocf_facts, ocp_facts}
use Rattle.database.specs.Rows.{Row, Rows}
use Rattle.database.specs.GoodRows.{holds_key, is_in_group, find, among}
use Rattle.database.specs.Kinds.{is_polynomial}
use Rattle.wire_reals.specs.Reals.{is_real_type}
use Rattle.raw_values.specs.RawValues.{is_string, start_of, value_at, field_raw, raw_in, raw_of}
use Rattle.parameters.specs.Located.{by_lines, needed, located}
use Rattle.readings.specs.Readings.{same_integer, equals, agrees, with_validity, reading_with, valid_within, validity}
use Rattle.five_numbers.specs.Numbers.{or_other, pic_row_of, identifiers_from, numbers_of, five_numbers}
use Rattle.identification.specs.Identification.{chosen, choose_by, identify_headed}
use Rattle.curve_points.specs.Curves.{curve_ends, xvals_of, yvals_of, curve_by, curve_of}
use Rattle.curve_values.specs.Along.{outcome_of, along}
use Rattle.curve_values.specs.Scale.{scale_of, on_scale}
use Rattle.limit_state.specs.State.{is_over, has_number, is_a_state, ahead, is_newer}
use Rattle.announced.specs.Announced.{raised, violation, after_reading, after_readings}
use Rattle.severity.specs.Violations.{is_violated}
use Rattle.severity.specs.Levels.{level_of}
use Rattle.severity.specs.Checks.{check_of, violates, severity_in}
use Rattle.limit_state.specs.declared.state.LimitState.{LimitState}
use Rattle.applying.specs.Checks.{checks_of, has_value, first_raw, applies, applying}
use Rattle.occurrences.specs.Values.{occurrences_from, integer_in, raws_of, is_refusal, answered, unless_refused, values_on, scale_under, values_of}
use Rattle.accepting.specs.Time.{state_in, in_time}
use Rattle.occurrences.specs.Progress.{progress_by}
use Rattle.stepping.specs.Step.{limits_from, limits_of, step_by, step_at, step_of, step_headed, step_in}
use Rattle.accepting.specs.Accepted.{progress_of, accepted}

-- here ";" stands for TAB
abbrev line : (table : ℕ) → String → Row
line table text = record { table = table; number = 1; start = 0; bytes = map (λ b. cond (eqb b (char ";")) 9 b) (ascii text) }

-- In 01's packet, of APID 10 and count 0, TEMP is signed 8 at byte 10, so -1, and ON is unsigned 4 at byte 11,
-- bit 4, so 5.
-- TEMP has a soft check from 0 to 9 and another check, and a curve by which -1 is -10
abbrev rows_with : (plf pcf ocf ocp : String) → Rows
rows_with place kind limit check =
    among (
    line 0 "3;25;10;0;0;7"
    ∷ line 2 place
    ∷ line 2 "ON;7;11;4"
    ∷ line 3 kind
    ∷ line 3 "ON;;;;3;0;;;;N;R"
    ∷ line 4 "C1;;I;I;;;2;P"
    ∷ line 5 "C1;0;0"
    ∷ line 5 "C1;10;100"
    ∷ line 8 limit
    ∷ line 9 "TEMP;1;S;0;9"
    ∷ line 9 check
    ∷ []
    )

abbrev step_told : (plf pcf ocf ocp : String) → LimitState → Outcome LimitState
step_told place kind limit check s = step_in (rows_with place kind limit check) packet (ascii "TEMP") s

abbrev unstepped : LimitState
unstepped = record { fresh = true; apid = 0; count = 0; run = 0; announced = 0 }

abbrev used : (apid count run announced : ℕ) → LimitState
used a c r n = record { fresh = false; apid = a; count = c; run = r; announced = n }

pub record Examples : Type 0 where
  -- with NBCHCK 2 the first violation isn't announced; the second is, as hard where the hard check applies
  pub first : step_told "TEMP;7;10;0" "TEMP;;;;4;4;;;;N;R" "TEMP;2;2;U;I" "TEMP;2;H;5;9;ON;5" unstepped ≡ answer (used 10 0 1 0)
  pub hard : step_told "TEMP;7;10;0" "TEMP;;;;4;4;;;;N;R" "TEMP;2;2;U;I" "TEMP;2;H;5;9;ON;5" (used 10 16383 1 0) ≡ answer (used 10 0 2 2)
  pub soft : step_told "TEMP;7;10;0" "TEMP;;;;4;4;;;;N;R" "TEMP;2;2;U;I" "TEMP;2;H;5;9;ON;4" (used 10 16383 1 0) ≡ answer (used 10 0 2 1)
  -- two occurrences, -1 and -123, raise the run twice; the fifth of five leaves the packet
  pub twice : step_told "TEMP;7;10;0;2;8" "TEMP;;;;4;4;;;;N;R" "TEMP;2;2;U;I" "TEMP;2;H;-9;9" unstepped ≡ answer (used 10 0 2 2)
  pub leaves : step_told "TEMP;7;10;0;5;8" "TEMP;;;;4;4;;;;N;R" "TEMP;2;2;U;I" "TEMP;2;H;-9;9" unstepped ≡ refused 28 14
  -- an invalid reading changes nothing, and the packet sets APID and count
  pub invalid : step_told "TEMP;7;10;0" "TEMP;;;;4;4;;ON;;N;R;;;;;;;4" "TEMP;2;2;U;I" "TEMP;2;H;5;9" (used 10 16383 7 1) ≡ answer (used 10 0 7 1)
  -- an invalid field that leaves the packet is refused all the same
  pub invalid_leaves : step_told "TEMP;7;10;0;5;8" "TEMP;;;;4;4;;ON;;N;R;;;;;;;4" "TEMP;2;2;U;I" "TEMP;2;H;5;9" (used 10 16383 7 1) ≡ refused 28 14
  -- under C the value is -10
  pub engineered : step_told "TEMP;7;10;0" "TEMP;;;;4;4;;;;N;R;C1" "TEMP;1;2;C;I" "TEMP;2;H;-9;9" unstepped ≡ answer (used 10 0 1 2)
  pub raw : step_told "TEMP;7;10;0" "TEMP;;;;4;4;;;;N;R;C1" "TEMP;1;2;U;I" "TEMP;2;H;-9;9" unstepped ≡ answer (used 10 0 1 1)
  -- the same count again, another APID, a run of 100, no limits of the name, and no place
  pub again : step_told "TEMP;7;10;0" "TEMP;;;;4;4;;;;N;R" "TEMP;2;2;U;I" "TEMP;2;H;5;9" (used 10 0 1 0) ≡ refused 35 0
  pub another : step_told "TEMP;7;10;0" "TEMP;;;;4;4;;;;N;R" "TEMP;2;2;U;I" "TEMP;2;H;5;9" (used 11 0 1 0) ≡ refused 36 0
  pub long_run : step_told "TEMP;7;10;0" "TEMP;;;;4;4;;;;N;R" "TEMP;2;2;U;I" "TEMP;2;H;5;9" (used 10 0 100 0) ≡ refused 34 0
  pub unlimited : step_told "TEMP;7;10;0" "TEMP;;;;4;4;;;;N;R" "ON;2;2;U;I" "TEMP;2;H;5;9" (used 11 0 1 0) ≡ refused 33 0
  pub nowhere : step_told "TEMP;8;10;0" "TEMP;;;;4;4;;;;N;R" "TEMP;2;2;U;I" "TEMP;2;H;5;9" (used 11 0 1 0) ≡ refused 26 0

pub examples : Examples
unfolding
    step_in step_headed step_of step_at step_by accepted progress_by progress_of limits_of limits_from and_then
    state_in in_time is_a_state is_over has_number is_newer ahead after_readings after_reading violation raised
    applying applies first_raw has_value checks_of check_of level_of severity_in violates is_violated
    values_of scale_under values_on unless_refused answered is_refusal raws_of integer_in occurrences_from
    identify_headed choose_by chosen five_numbers numbers_of identifiers_from pic_row_of or_other
    head_of version type_bit length_field flagged apid sequence_count
    validity valid_within reading_with located needed by_lines with_validity agrees equals same_integer
    scale_of on_scale curve_of curve_by curve_ends is_polynomial xvals_of yvals_of along outcome_of
    among find holds_key is_in_group facts_of pid_keys pid_facts plf_facts pcf_facts caf_facts cap_facts ocf_facts ocp_facts
    same_key key_words same_bytes same_name same_curve_name
    pid_row plf_row pcf_row caf_row cap_row ocf_row ocp_row column columns_of columns_from name_of curve_name_of
    natural_or natural_from integer_or integer_from number_of meaning spelt after digit_on digit_of
    optional_name is_given optional_curve letter_of valid_of category_of nature_of format_of off_ends_of limit_value_of limit_coding_of check_type_of
    raw_of raw_in start_of field_raw is_string is_real_type value_at width_of integer_width bits_within
    unsigned_at signed_at complement_of field_at is_width inside bit_inside number_at bit_at packet
    curve_at placed from_last before_first off_end through point_numbered not_above below above nearest_of better closer nearer passes
    line_at is_segment is_point is_coordinate is_raw lies result_of height_at floor_div
examples =
    record {
      first = refl;
      hard = refl;
      soft = refl;
      twice = refl;
      leaves = refl;
      invalid = refl;
      invalid_leaves = refl;
      engineered = refl;
      raw = refl;
      again = refl;
      another = refl;
      long_run = refl;
      unlimited = refl;
      nowhere = refl;
    }
