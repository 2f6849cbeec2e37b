-- Refusals 33, 26, 28, 30 and 31 of a limit step come up: what is said of each holds of small rows.
use Rattle.std.specs.Prelude.{ℕ, zero, suc, ◌<◌, ◌≡◌, refl, true, false, [], ◌∷◌, ℤ, pos, negsuc}
use Rattle.std.proofs.Common.{sym, ap, ◌∙◌, arith}
use Rattle.std.proofs.Math.Option.{some}
use Rattle.laws.specs.Text.{ascii}
use Rattle.numbers.specs.Number.{number_of, meaning, spelt, after, digit_on, digit_of}
use Rattle.lines.specs.Columns.{columns_of, columns_from}
use Rattle.name_bytes.specs.Names.{name_of, curve_name_of, same_bytes}
use Rattle.rows.specs.Values.{natural_from, natural_or, integer_from, integer_or, letter_of, is_given, optional_name, optional_curve, valid_of}
use Rattle.rows.specs.Values.{category_of, nature_of, format_of, off_ends_of, limit_value_of, limit_coding_of}
use Rattle.decoding.specs.Records.{column, pid_row, plf_row, pcf_row, caf_row, cap_row, ocf_row}
use Rattle.rows.specs.declared.letters.OffEnds.TheVariants.{Extrapolate, Refuse}
use Rattle.widths.specs.Width.{width_of, integer_width, bits_within}
use Rattle.fields.specs.Bits.{bit_at, number_at}
use Rattle.fields.specs.Place.{bit_inside, inside}
use Rattle.fields.specs.Field.{is_width, field_at, unsigned_at}
use Rattle.fields.specs.Sign.{complement_of, signed_at}
use Rattle.fields.specs.Figures.{packet}
use Rattle.curves.specs.Floor.{floor_div}
use Rattle.curves.specs.Line.{is_between as lies, height_at}
use Rattle.calibration.specs.Nearest.{passes, nearer, closer, better, nearest_of, not_above, below, above}
use Rattle.calibration.specs.Curve.{point_numbered}
use Rattle.headers.specs.Header.{version, type_bit, flagged, apid, sequence_count, length_field, head_of}
use Rattle.outcomes.specs.Outcome.{answer, and_then}
use Rattle.verdicts.specs.Key.{limits, key_words, same_key}
use Rattle.verdicts.specs.Facts.{facts_of, pid_keys, pid_facts, plf_facts, pcf_facts, caf_facts, cap_facts, ocf_facts}
use Rattle.database.specs.Rows.{Row, Rows}
use Rattle.database.specs.GoodRows.{holds_key, is_in_group, find, among}
use Rattle.database.specs.Kinds.{is_polynomial}
use Rattle.five_numbers.specs.Numbers.{or_other, pic_row_of, identifiers_from, numbers_of, five_numbers}
use Rattle.identification.specs.Identification.{chosen, choose_by, identify_headed, identify_by}
use Rattle.wire_reals.specs.Reals.{is_real_type}
use Rattle.raw_values.specs.RawValues.{is_string, start_of, value_at, field_raw, raw_in, raw_of}
use Rattle.readings.specs.Readings.{valid_within, validity}
use Rattle.curve_points.specs.Curves.{Curve, curve_ends, xvals_of, yvals_of, curve_by, curve_of}
use Rattle.curve_values.specs.OffCurve.{is_f, is_off, is_off_curve}
use Rattle.limit_state.specs.State.{is_over, has_number, is_a_state, ahead, is_newer}
use Rattle.accepting.specs.Time.{in_time}
use Rattle.at_verdicts.specs.Steps.{Unlimited, StepUnlocated}
use Rattle.at_verdicts.specs.OutOfRange.{height_by, height_placed, height_on, is_out_of_range}
use Rattle.at_verdicts.specs.OffCurve.{OffItsCurve, OutOfItsRange}
use Rattle.at_verdicts.specs.Fields.{all_inside, is_there}
use Rattle.at_verdicts.specs.Placed.{Placed, plf_of, pcf_of}
use Rattle.at_verdicts.specs.Taken.{Taken}
use Rattle.at_verdicts.specs.StepValues.{StepLeaves, StepOffCurve, StepOutOfRange}
use Rattle.at_verdicts.specs.ExampleRows.{line, pid_line, seven, figure, new, off, out, leaves, curve, placed_by}

pub record Examples : Type 0 where
  pub unlimited : Unlimited (among (pid_line ∷ [])) packet (ascii "T1") new
  pub step_unlocated : StepUnlocated (among (pid_line ∷ line 8 "T1;1;1;U;I" ∷ [])) packet (ascii "T1") new
  pub step_leaves : StepLeaves leaves packet (ascii "T1") new 14
  pub step_off : StepOffCurve off packet (ascii "T1") new
  pub step_out : StepOutOfRange out packet (ascii "T1") new

abbrev taken_by : (rows : Rows) (ocf : Row) → Placed rows packet (ascii "T1") → is_a_state new ≡ true → head_of packet ≡ answer figure
    → rows.holder (limits (name_of (ascii "T1"))) ≡ some ocf → in_time new figure ≡ answer new → Taken rows packet (ascii "T1") new
taken_by rows ocf at s h l n = record { state = s; head = figure; headed = h; at = at; ocf = ocf; has_limits = l; newer = n }

only_one : (P : ℕ → Type 0) → P 0 → (k : ℕ) → k < 1 → P k
only_one P p zero h = p
only_one P p (suc k) h = absurd (omega arith)

-- no raw value is off a curve that is P
on_p : (x y : ℕ) (c : Curve) (raw : ℤ) → some (curve Extrapolate x y) ≡ some c → is_off_curve c raw ≡ true → ⊥
unfolding is_off_curve is_f
on_p x y c raw e t =
    let q : c ≡ curve Extrapolate x y = cc in
    let f : false ≡ true = ap (λ (x : Curve). is_off_curve x raw) (sym q) ∙ t in
    let z : ◌≡◌ {A = ℕ} 0 1 = cc in
    omega arith

pub examples : Examples
unfolding
    is_there all_inside is_out_of_range height_on height_placed height_by is_off_curve is_off is_f lies height_at floor_div point_numbered
    not_above below above nearest_of better closer nearer passes
    and_then in_time is_a_state is_over has_number is_newer ahead
    identify_by identify_headed choose_by chosen five_numbers numbers_of identifiers_from pic_row_of or_other
    head_of version type_bit length_field flagged apid sequence_count
    validity valid_within
    curve_of curve_by curve_ends is_polynomial xvals_of yvals_of
    among find holds_key is_in_group facts_of pid_keys pid_facts plf_facts pcf_facts caf_facts cap_facts ocf_facts
    same_key key_words same_bytes
    pid_row plf_row pcf_row caf_row cap_row ocf_row column columns_of columns_from name_of curve_name_of
    natural_or natural_from integer_or integer_from number_of meaning spelt after digit_on digit_of
    optional_name is_given optional_curve letter_of valid_of category_of nature_of format_of off_ends_of limit_value_of limit_coding_of
    raw_of raw_in start_of field_raw is_string is_real_type value_at width_of integer_width bits_within
    unsigned_at signed_at complement_of field_at is_width inside bit_inside number_at bit_at packet
examples =
    let placedLeaves : Placed leaves packet (ascii "T1") = placed_by leaves (line 2 "T1;7;12;0;2;16") (line 3 "T1;;;;3;12;;;;N;R") refl refl refl in
    let placedOff : Placed off packet (ascii "T1") = placed_by off (line 2 "T1;7;10;0") (line 3 "T1;;;;4;4;;;;N;R;C1") refl refl refl in
    let placedOut : Placed out packet (ascii "T1") = placed_by out (line 2 "T1;7;12;0") (line 3 "T1;;;;3;12;;;;N;R;C1") refl refl refl in
    let isOffIt : OffItsCurve off (pcf_row (line 3 "T1;;;;4;4;;;;N;R;C1").bytes) (negsuc 0) =
    record { numeric = refl; given = refl; curve = curve Refuse 10 100; is = refl; holds = refl } in
    let isOut : OutOfItsRange out (pcf_row (line 3 "T1;;;;3;12;;;;N;R;C1").bytes) (pos 4660) =
    record { numeric = refl; given = refl; curve = curve Extrapolate 1 1000000; is = refl; holds = refl } in
    record {
      unlimited = record { state = refl; identity = seven; identified = refl; no_ocf_row = refl };
      step_unlocated =
          record {
            state = refl;
            ocf = line 8 "T1;1;1;U;I";
            has_limits = refl;
            unlocated = record { identity = seven; identified = refl; no_plf_row = refl };
          };
      step_leaves =
          record {
            taken = taken_by leaves (line 8 "T1;1;1;U;I") placedLeaves refl refl refl refl;
            k = 1;
            below = omega arith;
            outside = refl;
            first = only_one (λ (j : ℕ). is_there packet (plf_of placedLeaves) (pcf_of placedLeaves) j ≡ true) refl;
            start = refl;
          };
      step_off =
          record {
            calibrated =
                record {
                  taken = taken_by off (line 8 "T1;1;1;C;I") placedOff refl refl refl refl;
                  there = only_one (λ (k : ℕ). is_there packet (plf_of placedOff) (pcf_of placedOff) k ≡ true) refl;
                  valid = refl;
                  under_c = refl;
                };
            off = record { k = 0; below = omega arith; raw = negsuc 0; read = refl; is = isOffIt };
          };
      step_out =
          record {
            calibrated =
                record {
                  taken = taken_by out (line 8 "T1;1;1;C;I") placedOut refl refl refl refl;
                  there = only_one (λ (k : ℕ). is_there packet (plf_of placedOut) (pcf_of placedOut) k ≡ true) refl;
                  valid = refl;
                  under_c = refl;
                };
            none_off = λ o. on_p 1 1000000 o.is.curve o.raw o.is.is o.is.holds;
            out = record { k = 0; below = omega arith; raw = pos 4660; read = refl; is = isOut };
          };
    }
