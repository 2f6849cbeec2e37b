-- Refusals 26 to 32 of an extraction and of an engineering call come up: what is said of each holds of small rows.
use Rattle.std.specs.Prelude.{◌≡◌, refl, true, pos, negsuc}
use mathlib.Core.List.Memᴰ
use mathlib.Core.List.{[], ◌∷◌, Memᴰ}
use Rattle.std.proofs.Common.{arith}
use Rattle.std.specs.Int.Signed.{lt_z}
use Rattle.laws.specs.Text.{ascii}
use Rattle.numbers.specs.Number.{number_of, meaning, spelt, after, digit_on, digit_of}
use Rattle.lines.specs.Columns.{columns_of, columns_from, places_of, places_from}
use Rattle.name_bytes.specs.Names.{name_of, curve_name_of, same_bytes}
use Rattle.rows.specs.Values.{natural_from, natural_or, integer_from, integer_or, letter_of, is_given, optional_name, optional_curve, valid_of}
use Rattle.rows.specs.Values.{category_of, nature_of, format_of, off_ends_of}
use Rattle.decoding.specs.Records.{column, pid_row, plf_row, pcf_row, caf_row, cap_row, txp_row}
use Rattle.rows.specs.declared.letters.OffEnds.TheVariants.{Extrapolate, Refuse}
use Rattle.widths.specs.Width.{width_of, integer_width, bits_within}
use Rattle.fields.specs.Bits.{bit_at, number_at}
use Rattle.fields.specs.Place.{bit_inside, inside}
use Rattle.fields.specs.Field.{is_width, field_at, unsigned_at}
use Rattle.fields.specs.Sign.{complement_of, signed_at}
use Rattle.fields.specs.Figures.{packet}
use Rattle.curves.specs.Floor.{floor_div}
use Rattle.curves.specs.Line.{is_between as lies, height_at}
use Rattle.calibration.specs.Nearest.{passes, nearer, closer, better, nearest_of, not_above, below, above}
use Rattle.calibration.specs.Curve.{point_numbered}
use Rattle.headers.specs.Header.{version, type_bit, flagged, apid, sequence_count, length_field, head_of}
use Rattle.outcomes.specs.Outcome.{and_then}
use Rattle.outcomes.specs.Values.{number}
use Rattle.verdicts.specs.Key.{key_words, same_key}
use Rattle.verdicts.specs.Facts.{facts_of, pid_keys, pid_facts, plf_facts, pcf_facts, caf_facts, cap_facts, txp_facts, ocf_facts}
use Rattle.database.specs.Rows.{Row}
use Rattle.database.specs.GoodRows.{holds_key, is_in_group, find, among}
use Rattle.database.specs.Kinds.{is_polynomial}
use Rattle.five_numbers.specs.Numbers.{or_other, pic_row_of, identifiers_from, numbers_of, five_numbers}
use Rattle.identification.specs.Identification.{chosen, choose_by, identify_headed, identify_by}
use Rattle.wire_reals.specs.Reals.{is_real_type}
use Rattle.raw_values.specs.RawValues.{is_string, start_of, value_at, field_raw, raw_in, raw_of}
use Rattle.parameters.specs.Located.{by_lines, needed, located}
use Rattle.readings.specs.Readings.{with_validity, reading_with, valid_within, validity, reading}
use Rattle.curve_points.specs.Curves.{curve_ends, xvals_of, yvals_of, curve_by, curve_of}
use Rattle.curve_values.specs.OffCurve.{is_f, is_off, is_off_curve}
use Rattle.texts.specs.Texts.{from_of, to_of}
use Rattle.extraction.specs.Extraction.{extract_by}
use Rattle.at_verdicts.specs.Unlocated.{Unlocated}
use Rattle.at_verdicts.specs.OutOfRange.{height_by, height_placed, height_on, is_out_of_range}
use Rattle.at_verdicts.specs.OffCurve.{OffItsCurve, OutOfItsRange, ReadSo}
use Rattle.at_verdicts.specs.NoText.{Textless}
use Rattle.at_verdicts.specs.Fields.{all_inside, is_there}
use Rattle.at_verdicts.specs.Placed.{Placed, NoOccurrence, Leaves, OffByte}
use Rattle.at_verdicts.specs.ExampleRows.{line, pid_line, seven, off, out, textless, leaves, string, curve, placed_by}

pub record Examples : Type 0 where
  pub unlocated : Unlocated (among (pid_line ∷ [])) packet (ascii "T1")
  pub no_occurrence : NoOccurrence leaves packet (ascii "T1") 2
  pub second_leaves : Leaves leaves packet (ascii "T1") 1 14
  pub off_byte : OffByte string packet (ascii "T1") 0 10
  pub read_off : ReadSo off packet (ascii "T1") 0 (OffItsCurve off)
  pub read_out : ReadSo out packet (ascii "T1") 0 (OutOfItsRange out)
  pub no_text : ReadSo textless packet (ascii "T1") 0 (Textless textless)

-- the one text ends at 100
ends_before : (range : Row) → Memᴰ range (line 7 "X1;0;100;LOW" ∷ []) → lt_z (to_of range) (pos 4660) ≡ true
unfolding to_of txp_row column columns_of columns_from places_of places_from curve_name_of integer_or integer_from number_of meaning spelt after digit_on digit_of
ends_before range (Memᴰ.head q) = rw q
ends_before range (Memᴰ.tail m) = absurd (Memᴰ.not-nil m)

pub examples : Examples
unfolding
    is_there all_inside is_out_of_range height_on height_placed height_by is_off_curve is_off is_f lies height_at floor_div point_numbered
    not_above below above nearest_of better closer nearer passes
    and_then
    identify_by identify_headed choose_by chosen five_numbers numbers_of identifiers_from pic_row_of or_other
    head_of version type_bit length_field flagged apid sequence_count
    extract_by reading validity valid_within reading_with located needed by_lines with_validity
    curve_of curve_by curve_ends is_polynomial xvals_of yvals_of from_of to_of
    among find holds_key is_in_group facts_of pid_keys pid_facts plf_facts pcf_facts caf_facts cap_facts txp_facts ocf_facts
    same_key key_words same_bytes
    pid_row plf_row pcf_row caf_row cap_row txp_row column columns_of columns_from places_of places_from name_of curve_name_of
    natural_or natural_from integer_or integer_from number_of meaning spelt after digit_on digit_of
    optional_name is_given optional_curve letter_of valid_of category_of nature_of format_of off_ends_of
    raw_of raw_in start_of field_raw is_string is_real_type value_at width_of integer_width bits_within
    unsigned_at signed_at complement_of field_at is_width inside bit_inside number_at bit_at packet
examples =
    let placedLeaves : Placed leaves packet (ascii "T1") = placed_by leaves (line 2 "T1;7;12;0;2;16") (line 3 "T1;;;;3;12;;;;N;R") refl refl refl in
    let isOffIt : OffItsCurve off (pcf_row (line 3 "T1;;;;4;4;;;;N;R;C1").bytes) (negsuc 0) =
    record { numeric = refl; given = refl; curve = curve Refuse 10 100; is = refl; holds = refl } in
    let isOut : OutOfItsRange out (pcf_row (line 3 "T1;;;;3;12;;;;N;R;C1").bytes) (pos 4660) =
    record { numeric = refl; given = refl; curve = curve Extrapolate 1 1000000; is = refl; holds = refl } in
    record {
      unlocated = record { identity = seven; identified = refl; no_plf_row = refl };
      no_occurrence = record { at = placedLeaves; over = omega arith };
      second_leaves =
          record {
            at = placedLeaves;
            below = omega arith;
            outside = refl;
            start = refl;
          };
      off_byte =
          record {
            at = placed_by string (line 2 "T1;7;10;1") (line 3 "T1;;;;8;2;;;;T;R") refl refl refl;
            below = omega arith;
            there = refl;
            string = refl;
            off_a_byte = λ e. omega arith;
            start = refl;
          };
      read_off =
          record {
            reading = record { value = number (negsuc 0); valid = true };
            read = refl;
            raw = negsuc 0;
            is_number = refl;
            row = line 3 "T1;;;;4;4;;;;N;R;C1";
            described = refl;
            is = isOffIt;
          };
      read_out =
          record {
            reading = record { value = number (pos 4660); valid = true };
            read = refl;
            raw = pos 4660;
            is_number = refl;
            row = line 3 "T1;;;;3;12;;;;N;R;C1";
            described = refl;
            is = isOut;
          };
      no_text =
          record {
            reading = record { value = number (pos 4660); valid = true };
            read = refl;
            raw = pos 4660;
            is_number = refl;
            row = line 3 "T1;;;;3;12;;;;S;R;X1";
            described = refl;
            is = record { status = refl; below = λ range g. ends_before range g.among };
          };
    }
