-- What a line of each table says, by its columns: `at k` is the text of column k, counted from 0,
-- so that 01's column k is `at (k - 1)`.
use Rattle.std.specs.Prelude.{ℕ, List, ◌≡◌, refl, pos, negsuc, get_or}
use Rattle.laws.specs.Text.{ascii}
use Rattle.numbers.specs.Number.{digit_of, digit_on, after, spelt, meaning, number_of}
use Rattle.lines.specs.Columns.{columns_of, columns_from, column_at, Place, places_of, places_from}
use Rattle.name_bytes.specs.Names.{name_of, curve_name_of}
use Rattle.rows.specs.Values.{
  natural_or,
  integer_from,
  integer_or,
  coefficient_or_zero,
  letter_of,
  optional_name,
  optional_curve,
  optional_apid,
  identification_at,
  valid_of,
  category_of,
  nature_of,
  format_of,
  off_ends_of,
  limit_value_of,
  limit_coding_of,
  check_type_of,
}
use Rattle.rows.specs.declared.records.PidRow.{PidRow}
use Rattle.rows.specs.declared.records.PicRow.{PicRow}
use Rattle.rows.specs.declared.records.PlfRow.{PlfRow}
use Rattle.rows.specs.declared.records.PcfRow.{PcfRow}
use Rattle.rows.specs.declared.records.CafRow.{CafRow}
use Rattle.rows.specs.declared.records.CapRow.{CapRow}
use Rattle.rows.specs.declared.records.TxfRow.{TxfRow}
use Rattle.rows.specs.declared.records.TxpRow.{TxpRow}
use Rattle.rows.specs.declared.records.OcfRow.{OcfRow}
use Rattle.rows.specs.declared.records.OcpRow.{OcpRow}
use Rattle.rows.specs.declared.records.McfRow.{McfRow}

-- a column of a line; one that isn't there reads as empty
unfoldable pub column : List ℕ → ℕ → List ℕ
column line k = column_at (columns_of line) k

abbrev pub place_at : List ℕ → ℕ → Place
place_at line k = get_or (places_of line) k record { start = 0; end = 0 }

-- 01: "PI1_VAL 10 and PI2_VAL 10 0–2,147,483,647 default 0"
abbrev pub pid_row_by : (ℕ → List ℕ) → PidRow
pid_row_by at =
    record {
      ptype = natural_or 0 (at 0);
      stype = natural_or 0 (at 1);
      apid = natural_or 0 (at 2);
      pi1 = natural_or 0 (at 3);
      pi2 = natural_or 0 (at 4);
      spid = record { 0 = natural_or 0 (at 5) };
      valid = valid_of (letter_of (at 12));
    }

unfoldable pub pid_row : List ℕ → PidRow
pid_row line = pid_row_by (column line)

abbrev pub pic_row_by : (ℕ → List ℕ) → PicRow
pic_row_by at =
    record {
      ptype = natural_or 0 (at 0);
      stype = natural_or 0 (at 1);
      pi1 = identification_at (at 2) (at 3);
      pi2 = identification_at (at 4) (at 5);
      apid = optional_apid (at 6);
    }

unfoldable pub pic_row : List ℕ → PicRow
pic_row line = pic_row_by (column line)

-- 01: "NBOCC 4 1–9,999 default 1, LGOCC 5 0–32,767 default 0"
abbrev pub plf_row_by : (ℕ → List ℕ) → PlfRow
plf_row_by at =
    record {
      name = name_of (at 0);
      spid = record { 0 = natural_or 0 (at 1) };
      offby = record { 0 = natural_or 0 (at 2) };
      offbi = record { 0 = natural_or 0 (at 3) };
      nbocc = natural_or 1 (at 4);
      lgocc = record { 0 = natural_or 0 (at 5) };
    }

unfoldable pub plf_row : List ℕ → PlfRow
plf_row line = plf_row_by (column line)

-- 01: "VALPAR 5 −9,999–65,535 default 1"
abbrev pub pcf_row_by : (ℕ → List ℕ) → PcfRow
pcf_row_by at =
    record {
      name = name_of (at 0);
      ptc = natural_or 0 (at 4);
      pfc = natural_or 0 (at 5);
      valid = optional_name (at 7);
      categ = category_of (letter_of (at 9));
      natur = nature_of (letter_of (at 10));
      curtx = optional_curve (at 11);
      valpar = integer_or (pos 1) (at 17);
    }

unfoldable pub pcf_row : List ℕ → PcfRow
pcf_row line = pcf_row_by (column line)

abbrev pub caf_row_by : (ℕ → List ℕ) → CafRow
caf_row_by at =
    record {
      numbr = curve_name_of (at 0);
      engfmt = format_of (letter_of (at 2));
      rawfmt = format_of (letter_of (at 3));
      ncurve = natural_or 0 (at 6);
      inter = off_ends_of (letter_of (at 7));
    }

unfoldable pub caf_row : List ℕ → CafRow
caf_row line = caf_row_by (column line)

abbrev pub cap_row_by : (ℕ → List ℕ) → CapRow
cap_row_by at =
    record {
      numbr = curve_name_of (at 0);
      xvals = integer_or (pos 0) (at 1);
      yvals = integer_or (pos 0) (at 2);
    }

unfoldable pub cap_row : List ℕ → CapRow
cap_row line = cap_row_by (column line)

abbrev pub txf_row_by : (ℕ → List ℕ) → TxfRow
txf_row_by at =
    record {
      numbr = curve_name_of (at 0);
      rawfmt = format_of (letter_of (at 2));
      nalias = natural_or 0 (at 3);
    }

unfoldable pub txf_row : List ℕ → TxfRow
txf_row line = txf_row_by (column line)

abbrev pub txp_row_by : (ℕ → List ℕ) → (start end : ℕ) → TxpRow
txp_row_by at start end =
    record {
      numbr = curve_name_of (at 0);
      from = integer_or (pos 0) (at 1);
      to = integer_or (pos 0) (at 2);
      start = start;
      end = end;
    }

unfoldable pub txp_row : List ℕ → TxpRow
txp_row line = txp_row_by (column line) (place_at line 3).start (place_at line 3).end

abbrev pub ocf_row_by : (ℕ → List ℕ) → OcfRow
ocf_row_by at =
    record {
      name = name_of (at 0);
      nbchck = natural_or 0 (at 1);
      nbool = natural_or 0 (at 2);
      inter = limit_value_of (letter_of (at 3));
      codin = limit_coding_of (letter_of (at 4));
    }

unfoldable pub ocf_row : List ℕ → OcfRow
ocf_row line = ocf_row_by (column line)

-- 01: "VALPAR 5 as in pcf"
abbrev pub ocp_row_by : (ℕ → List ℕ) → OcpRow
ocp_row_by at =
    record {
      name = name_of (at 0);
      pos = natural_or 0 (at 1);
      check = check_type_of (letter_of (at 2));
      lvalu = integer_or (pos 0) (at 3);
      hvalu = integer_or (pos 0) (at 4);
      rlchk = optional_name (at 5);
      valpar = integer_or (pos 1) (at 6);
    }

unfoldable pub ocp_row : List ℕ → OcpRow
ocp_row line = ocp_row_by (column line)

-- 02, P1: "All five coefficients of a curve are held together as doubles"
abbrev pub mcf_row_by : (ℕ → List ℕ) → McfRow
mcf_row_by at =
    record {
      ident = curve_name_of (at 0);
      polynomial =
          record {
            pol1 = coefficient_or_zero (at 2);
            pol2 = coefficient_or_zero (at 3);
            pol3 = coefficient_or_zero (at 4);
            pol4 = coefficient_or_zero (at 5);
            pol5 = coefficient_or_zero (at 6);
          };
    }

unfoldable pub mcf_row : List ℕ → McfRow
mcf_row line = mcf_row_by (column line)

pub record Examples : Type 0 where
  -- txp: a range of texts, and where ALTXT stands in the line
  pub range : txp_row (ascii "T1\t-2\t5\tWARM") ≡ record { numbr = curve_name_of (ascii "T1"); from = negsuc 1; to = pos 5; start = 8; end = 12 }
  -- ocp: 01 "VALPAR 5 as in pcf": 1 where it is empty
  pub valpar : (ocp_row (ascii "P\t1\tS\t-10\t40\t\t")).valpar ≡ pos 1

pub examples : Examples
unfolding txp_row ocp_row column columns_of columns_from places_of places_from curve_name_of integer_or integer_from number_of meaning spelt after digit_on digit_of
examples = record { range = refl; valpar = refl }
