-- Reason 8: columns that contradict each other. Each answer is the lowest such column, from 1,
-- or 0 where there is none.
use Rattle.std.specs.Prelude.{ℕ, ◌≡◌, refl, List, Bool, true, false, not, cond, ◌&&◌, leb, ltb, eqb}
use Rattle.std.proofs.Math.Option.{Option, some, none}
use Rattle.std.specs.Int.Signed.{lt_z}
use Rattle.schemas.specs.declared.Table.{Table}
use Rattle.schemas.specs.declared.Table.TheVariants.{Pid, Pic, Plf, Pcf, Caf, Cap, Txf, Txp, Ocf, Ocp, Mcf}
use Rattle.laws.specs.Text.{ascii}
use Rattle.numbers.specs.Number.{digit_of, digit_on, after, spelt, meaning, number_of}
use Rattle.lines.specs.Columns.{columns_of, columns_from}
use Rattle.rows.specs.Values.{integer_from, integer_or, letter_of, check_type_of}
use Rattle.decoding.specs.Records.{column, pic_row, plf_row, pcf_row, caf_row, txf_row, txp_row, ocf_row, ocp_row}
use Rattle.widths.specs.Width.{width_of}
use Rattle.rows.specs.declared.records.IdentificationField.{IdentificationField}
use Rattle.rows.specs.declared.records.IdentificationField.TheVariants.{Unused, At}
use Rattle.rows.specs.declared.records.PicRow.{PicRow}
use Rattle.rows.specs.declared.records.PlfRow.{PlfRow}
use Rattle.rows.specs.declared.records.PcfRow.{PcfRow}
use Rattle.rows.specs.declared.records.CafRow.{CafRow}
use Rattle.rows.specs.declared.records.TxfRow.{TxfRow}
use Rattle.rows.specs.declared.records.TxpRow.{TxpRow}
use Rattle.rows.specs.declared.records.OcfRow.{OcfRow}
use Rattle.rows.specs.declared.records.OcpRow.{OcpRow}
use Rattle.rows.specs.declared.letters.Category.{Category}
use Rattle.rows.specs.declared.letters.Category.TheVariants.{Numeric, Status, Text}
use Rattle.rows.specs.declared.letters.Format.{Format}
use Rattle.rows.specs.declared.letters.Format.TheVariants.{Signed, Unsigned, Real}
use Rattle.rows.specs.declared.letters.LimitCoding as LC
use Rattle.rows.specs.declared.letters.CheckType.{CheckType}
use Rattle.rows.specs.declared.letters.CheckType.TheVariants.{Soft, Hard, Delta, Consistency, Event}

-- 01: "Offset −1 means unused; otherwise width 0 is reason 8 at the width"
unfoldable pub no_width : IdentificationField → Bool
no_width Unused = false
no_width (At byte width) = eqb width 0

unfoldable pub pic_contradiction : PicRow → ℕ
pic_contradiction r = cond (no_width r.pi1) 4 (cond (no_width r.pi2) 6 0)

-- 01: "NBOCC over 1 with LGOCC 0 is reason 8 at column 6"
unfoldable pub plf_contradiction : PlfRow → ℕ
plf_contradiction r = cond (ltb 1 r.nbocc && eqb r.lgocc.0 0) 6 0

-- a whole number: PTC 1–4
abbrev pub is_whole : ℕ → Bool
is_whole ptc = leb 1 ptc && leb ptc 4

unfoldable pub is_refused : Option ℕ → Bool
is_refused (some bits) = false
is_refused none = true

-- 01: "T needs PTC 8 and PTC 8 needs T; S needs PTC 1–4 (reason 8, column 10)"
unfoldable pub category_clash : Category → ℕ → Bool
category_clash Numeric ptc = eqb ptc 8
category_clash Status ptc = not (is_whole ptc)
category_clash Text ptc = not (eqb ptc 8)

-- 01: "S without, T with, or N with another PTC: reason 8, column 12"
unfoldable pub curve_clash : Category → Bool → ℕ → Bool
curve_clash Numeric given ptc = given && not (is_whole ptc)
curve_clash Status given ptc = not given
curve_clash Text given ptc = given

-- 01: "Any other pair is reason 8 at column 6"
unfoldable pub pcf_contradiction : PcfRow → ℕ
pcf_contradiction r =
    cond (is_refused (width_of r.ptc r.pfc)) 6
    (cond (category_clash r.categ r.ptc) 10
    (cond (curve_clash r.categ r.curtx.given r.ptc) 12 0))

-- 01: "R is reason 8 at its column"
unfoldable pub is_real : Format → Bool
is_real Signed = false
is_real Unsigned = false
is_real Real = true

unfoldable pub caf_contradiction : CafRow → ℕ
caf_contradiction r = cond (is_real r.engfmt) 3 (cond (is_real r.rawfmt) 4 0)

-- 01: "RAWFMT 1! I/U/R (R is reason 8)"
unfoldable pub txf_contradiction : TxfRow → ℕ
txf_contradiction r = cond (is_real r.rawfmt) 3 0

-- 01: "FROM over TO is reason 8 at column 3"
unfoldable pub txp_contradiction : TxpRow → ℕ
txp_contradiction r = cond (lt_z r.to r.from) 3 0

-- 01: "CODIN 1! R/A/I, only I carried (reason 8)"
unfoldable pub is_carried_coding : LC.LimitCoding → Bool
is_carried_coding LC.TheVariants.Real = false
is_carried_coding LC.TheVariants.Text = false
is_carried_coding LC.TheVariants.Integer = true

unfoldable pub ocf_contradiction : OcfRow → ℕ
ocf_contradiction r = cond (is_carried_coding r.codin) 0 5

-- 01: "TYPE 1! S/H/D/C/E, only S and H carried (reason 8)"; "low over high is reason 8 at column 5"
unfoldable pub is_carried_check : CheckType → Bool
is_carried_check Soft = true
is_carried_check Hard = true
is_carried_check Delta = false
is_carried_check Consistency = false
is_carried_check Event = false

unfoldable pub ocp_contradiction : OcpRow → ℕ
ocp_contradiction r = cond (is_carried_check r.check) (cond (lt_z r.hvalu r.lvalu) 5 0) 3

-- the lowest column of a table's row that contradicts; pid, cap and mcf have none that can
unfoldable pub contradiction : Table → List ℕ → ℕ
contradiction Pid line = 0
contradiction Pic line = pic_contradiction (pic_row line)
contradiction Plf line = plf_contradiction (plf_row line)
contradiction Pcf line = pcf_contradiction (pcf_row line)
contradiction Caf line = caf_contradiction (caf_row line)
contradiction Cap line = 0
contradiction Txf line = txf_contradiction (txf_row line)
contradiction Txp line = txp_contradiction (txp_row line)
contradiction Ocf line = ocf_contradiction (ocf_row line)
contradiction Ocp line = ocp_contradiction (ocp_row line)
contradiction Mcf line = 0

pub record Examples : Type 0 where
  -- FROM 5 is over TO 3
  pub turned : contradiction Txp (ascii "T1\t5\t3\tWARM") ≡ 3
  -- a delta check isn't carried, whatever its limits are
  pub delta : contradiction Ocp (ascii "P\t1\tD\t9\t1\t\t") ≡ 3
  -- T without PTC 8
  pub textual : category_clash Text 3 ≡ true

pub examples : Examples
unfolding
    contradiction txp_contradiction ocp_contradiction is_carried_check category_clash txp_row ocp_row column columns_of columns_from letter_of check_type_of
    integer_or integer_from number_of meaning spelt after digit_on digit_of
examples = record { turned = refl; delta = refl; textual = refl }
