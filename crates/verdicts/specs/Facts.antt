-- What a well-formed row says of itself and of others: the columns of 01 under "Columns" that speak of keys,
-- names and counts.
use Rattle.std.specs.Prelude.{ℕ, Bool, true, false, cond, ◌&&◌, List, [], ◌∷◌, ◌++◌}
use Rattle.schemas.specs.declared.Table.{Table}
use Rattle.schemas.specs.declared.Table.TheVariants.{Pid, Pic, Plf, Pcf, Caf, Cap, Txf, Txp, Ocf, Ocp, Mcf}
use Rattle.decoding.specs.Records.{pid_row, pic_row, plf_row, pcf_row, caf_row, cap_row, txf_row, txp_row, ocf_row, ocp_row, mcf_row}
use Rattle.contradictions.specs.Contradictions.{is_whole}
use Rattle.rows.specs.declared.records.OptionalCurve.{OptionalCurve}
use Rattle.rows.specs.declared.records.PidRow.{PidRow}
use Rattle.rows.specs.declared.records.PicRow.{PicRow}
use Rattle.rows.specs.declared.records.PlfRow.{PlfRow}
use Rattle.rows.specs.declared.records.PcfRow.{PcfRow}
use Rattle.rows.specs.declared.records.CafRow.{CafRow}
use Rattle.rows.specs.declared.records.CapRow.{CapRow}
use Rattle.rows.specs.declared.records.TxfRow.{TxfRow}
use Rattle.rows.specs.declared.records.TxpRow.{TxpRow}
use Rattle.rows.specs.declared.records.OcfRow.{OcfRow}
use Rattle.rows.specs.declared.records.OcpRow.{OcpRow}
use Rattle.rows.specs.declared.records.McfRow.{McfRow}
use Rattle.rows.specs.declared.letters.Valid.{Valid}
use Rattle.rows.specs.declared.letters.Valid.TheVariants.{Yes, No}
use Rattle.rows.specs.declared.letters.Category.{Category}
use Rattle.rows.specs.declared.letters.Category.TheVariants.{Numeric, Status, Text}
use Rattle.rows.specs.declared.letters.Nature.{Nature}
use Rattle.rows.specs.declared.letters.Nature.TheVariants.{Raw, Dynamic, Expression, HardCoded, Saved, Constant}
use Rattle.rows.specs.declared.letters.LimitValue.{LimitValue}
use Rattle.rows.specs.declared.letters.LimitValue.TheVariants as LV
use Rattle.verdicts.specs.Key.{Key, packet, structure, identification, location, parameter, curve, point, texts, range, limits, check}

-- what a row says of itself to those that name it
pub data Condition : Type 0 where
  -- nothing more
  any_row : Condition
  -- 02, P5: "a pcf row of NATUR R or C"; docs/DECISIONS.md, "Corrections to the specification"
  locatable : Condition
  -- 01: "a pcf row of PTC 1–4"
  whole : Condition
  -- 01: "a pcf row of PTC 1–4, CATEG N"
  numeric : Condition
  -- 01: "a caf row", where an mcf row holds such keys too: a curve through points
  points : Condition

-- what is asked of a named row beside being there and good. 01: "of the kind asked"
pub data Kind : Type 0 where
  -- the row itself meets a condition
  itself : Condition → Kind
  -- what its own column names meets a condition, as in 01: "C needs CURTX in that pcf row"
  through : (column : ℕ) → Condition → Kind

-- a column that names a row: the key it names and the kind it asks for.
-- Through a column of the VALID chain circles are sought
pub record Naming : Type 0 where
  pub column : ℕ
  pub key : Key
  pub kind : Kind
  pub chained : Bool

-- a column that gives the number of rows in a group; a group goes by the key of the row that counts it
pub record Count : Type 0 where
  pub column : ℕ
  pub number : ℕ
  pub group : Key

pub record Facts : Type 0 where
  -- the keys it holds
  pub keys : List Key
  -- what it names, by rising column
  pub names : List Naming
  pub counts : List Count
  -- the groups that it is counted in
  pub groups : List Key
  -- the conditions that it meets
  pub meets : Condition → Bool

-- of a row of which nothing more can be asked
abbrev pub plainly : Condition → Bool
plainly any_row = true
plainly locatable = false
plainly whole = false
plainly numeric = false
plainly points = false

-- a name in a column that may be empty
abbrev when : Bool → Naming → List Naming
when given naming = cond given (naming ∷ []) []

-- 01: "Among well-formed VALID Y rows the first five numbers are unique, and so is SPID.
-- N rows have no key and are never named"
unfoldable pub pid_keys : Valid → PidRow → List Key
pid_keys Yes r = packet r.ptype r.stype r.apid r.pi1 r.pi2 ∷ structure r.spid.0 ∷ []
pid_keys No r = []

unfoldable pub pid_facts : PidRow → Facts
pid_facts r = record { keys = pid_keys r.valid r; names = []; counts = []; groups = []; meets = plainly }

unfoldable pub pic_facts : PicRow → Facts
pic_facts r = record { keys = identification r.ptype r.stype r.apid ∷ []; names = []; counts = []; groups = []; meets = plainly }

-- 02, P5: "plf NAME may name a pcf row of NATUR R or C"; 01: "SPID a VALID Y pid row"
unfoldable pub plf_facts : PlfRow → Facts
plf_facts r =
    record {
      keys = location r.name r.spid.0 ∷ [];
      names =
          record { column = 1; key = parameter r.name; kind = itself locatable; chained = false }
          ∷ record { column = 2; key = structure r.spid.0; kind = itself any_row; chained = false } ∷ [];
      counts = [];
      groups = [];
      meets = plainly;
    }

-- what plf may locate in packets: parameters that are read, and constants that are set from outside
abbrev is_locatable : Nature → Bool
is_locatable Raw = true
is_locatable Dynamic = false
is_locatable Expression = false
is_locatable HardCoded = false
is_locatable Saved = false
is_locatable Constant = true

abbrev is_numeric : Category → Bool
is_numeric Numeric = true
is_numeric Status = false
is_numeric Text = false

abbrev pcf_meets : PcfRow → Condition → Bool
pcf_meets r any_row = true
pcf_meets r locatable = is_locatable r.natur
pcf_meets r whole = is_whole r.ptc
pcf_meets r numeric = is_whole r.ptc && is_numeric r.categ
pcf_meets r points = false

-- 01: "S needs CURTX, naming a txf row; N may name a caf row"; 02, P1: "N parameters may name either", caf or mcf.
-- T has none
abbrev pub curtx_key : Category → OptionalCurve → Key
curtx_key Numeric c = curve c.name
curtx_key Status c = texts c.name
curtx_key Text c = curve c.name

-- 01: "VALID, if given, names a pcf row of PTC 1–4"
unfoldable pub pcf_facts : PcfRow → Facts
pcf_facts r =
    record {
      keys = parameter r.name ∷ [];
      names =
          when r.valid.given (record { column = 8; key = parameter r.valid.name; kind = itself whole; chained = true })
          ++ when r.curtx.given (record { column = 12; key = curtx_key r.categ r.curtx; kind = itself any_row; chained = false });
      counts = [];
      groups = [];
      meets = pcf_meets r;
    }

-- of a curve through points
abbrev pub caf_meets : Condition → Bool
caf_meets any_row = true
caf_meets locatable = false
caf_meets whole = false
caf_meets numeric = false
caf_meets points = true

-- 01: "NCURVE counts cap rows"
unfoldable pub caf_facts : CafRow → Facts
caf_facts r =
    record {
      keys = curve r.numbr ∷ [];
      names = [];
      counts = record { column = 7; number = r.ncurve; group = curve r.numbr } ∷ [];
      groups = [];
      meets = caf_meets;
    }

-- 01: "NUMBR 10! (a caf row)"
unfoldable pub cap_facts : CapRow → Facts
cap_facts r =
    record {
      keys = point r.numbr r.xvals ∷ [];
      names = record { column = 1; key = curve r.numbr; kind = itself points; chained = false } ∷ [];
      counts = [];
      groups = curve r.numbr ∷ [];
      meets = plainly;
    }

-- 01: "NALIAS 3! 1–999, counting txp rows"
unfoldable pub txf_facts : TxfRow → Facts
txf_facts r =
    record {
      keys = texts r.numbr ∷ [];
      names = [];
      counts = record { column = 4; number = r.nalias; group = texts r.numbr } ∷ [];
      groups = [];
      meets = plainly;
    }

-- 01: "NUMBR 10! (a txf row)"
unfoldable pub txp_facts : TxpRow → Facts
txp_facts r =
    record {
      keys = range r.numbr r.from ∷ [];
      names = record { column = 1; key = texts r.numbr; kind = itself any_row; chained = false } ∷ [];
      counts = [];
      groups = texts r.numbr ∷ [];
      meets = plainly;
    }

-- 01: "C needs CURTX in that pcf row (reason 11, column 4)"; 02, P1:
-- "a limit with INTER C on a polynomial is reason 11 at column 4"
abbrev pub of_engineering : LimitValue → Naming → List Naming
of_engineering LV.Raw naming = []
of_engineering LV.Engineering naming = naming ∷ []

-- 01: "NAME 8! (a pcf row of PTC 1–4, CATEG N)"; "NBOOL 2! 1–16, counting ocp rows"
unfoldable pub ocf_facts : OcfRow → Facts
ocf_facts r =
    record {
      keys = limits r.name ∷ [];
      names =
          record { column = 1; key = parameter r.name; kind = itself numeric; chained = false }
          ∷ of_engineering r.inter (record { column = 4; key = parameter r.name; kind = through 12 points; chained = false });
      counts = record { column = 3; number = r.nbool; group = limits r.name } ∷ [];
      groups = [];
      meets = plainly;
    }

-- 01: "NAME 8! (an ocf row)"; "RLCHK 8 (a pcf row of PTC 1–4)"
unfoldable pub ocp_facts : OcpRow → Facts
ocp_facts r =
    record {
      keys = check r.name r.pos ∷ [];
      names =
          record { column = 1; key = limits r.name; kind = itself any_row; chained = false }
          ∷ when r.rlchk.given (record { column = 6; key = parameter r.rlchk.name; kind = itself whole; chained = false });
      counts = [];
      groups = limits r.name ∷ [];
      meets = plainly;
    }

-- 02, P1: "IDENT shares its keys with caf NUMBR, so a clash is reason 9 for both"
unfoldable pub mcf_facts : McfRow → Facts
mcf_facts r = record { keys = curve r.ident ∷ []; names = []; counts = []; groups = []; meets = plainly }

unfoldable pub facts_of : Table → List ℕ → Facts
facts_of Pid line = pid_facts (pid_row line)
facts_of Pic line = pic_facts (pic_row line)
facts_of Plf line = plf_facts (plf_row line)
facts_of Pcf line = pcf_facts (pcf_row line)
facts_of Caf line = caf_facts (caf_row line)
facts_of Cap line = cap_facts (cap_row line)
facts_of Txf line = txf_facts (txf_row line)
facts_of Txp line = txp_facts (txp_row line)
facts_of Ocf line = ocf_facts (ocf_row line)
facts_of Ocp line = ocp_facts (ocp_row line)
facts_of Mcf line = mcf_facts (mcf_row line)
