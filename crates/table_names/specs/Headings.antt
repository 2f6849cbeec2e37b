-- The names of the tables and of their columns. 01 prints those of the ICD without the table's prefix:
-- PCF_VALID is VALID.
use Rattle.std.specs.Prelude.{ℕ, ◌≡◌, refl, List, [], ◌∷◌, ◌++◌, length}
use Rattle.laws.specs.Text.{ascii}
use Rattle.lines.specs.Columns.{columns_of, columns_from, column_at}
use Rattle.name_bytes.specs.Names.{name_of}
use Rattle.name_bytes.specs.declared.Name.{Name}
use Rattle.schemas.specs.Tables.{schema, pid, pic, plf, pcf, caf, cap, txf, txp, ocf, ocp, mcf}
use Rattle.schemas.specs.declared.Table.{Table}
use Rattle.schemas.specs.declared.Table.TheVariants.{Pid, Pic, Plf, Pcf, Caf, Cap, Txf, Txp, Ocf, Ocp, Mcf}

-- a table's columns as one line, divided by TAB as its rows are
unfoldable pub headings : Table → List ℕ
headings Pid = ascii "TYPE\tSTYPE\tAPID\tPI1_VAL\tPI2_VAL\tSPID\tDESCR\tUNIT\tTPSD\tDFHSIZE\tTIME\tINTER\tVALID\tCHECK\tEVENT\tEVID"
headings Pic = ascii "TYPE\tSTYPE\tPI1_OFF\tPI1_WID\tPI2_OFF\tPI2_WID\tAPID"
headings Plf = ascii "NAME\tSPID\tOFFBY\tOFFBI\tNBOCC\tLGOCC\tTIME\tTDOCC"
headings Pcf =
    ascii "NAME\tDESCR\tPID\tUNIT\tPTC\tPFC\tWIDTH\tVALID\tRELATED\tCATEG\tNATUR\tCURTX\t"
    ++ ascii "INTER\tUSCON\tDECIM\tPARVAL\tSUBSYS\tVALPAR\tSPTYPE\tCORR\tOBTID\tDARC\tENDIAN"
headings Caf = ascii "NUMBR\tDESCR\tENGFMT\tRAWFMT\tRADIX\tUNIT\tNCURVE\tINTER"
headings Cap = ascii "NUMBR\tXVALS\tYVALS"
headings Txf = ascii "NUMBR\tDESCR\tRAWFMT\tNALIAS"
headings Txp = ascii "NUMBR\tFROM\tTO\tALTXT"
headings Ocf = ascii "NAME\tNBCHCK\tNBOOL\tINTER\tCODIN"
headings Ocp = ascii "NAME\tPOS\tTYPE\tLVALU\tHVALU\tRLCHK\tVALPAR"
headings Mcf = ascii "IDENT\tDESCR\tPOL1\tPOL2\tPOL3\tPOL4\tPOL5"

-- column k of a line of headings, from 1; there is none at 0 and past the last
unfoldable pub heading : List ℕ → ℕ → Name
heading line k = name_of (column_at ([] ∷ columns_of line) k)

unfoldable pub column_name : Table → ℕ → Name
column_name t k = heading (headings t) k

-- 01: "tables pid, pic, plf, pcf, caf, cap, txf, txp, ocf, ocp, in that order"; 02, P1: "mcf last"
abbrev pub table_names : List ℕ
table_names = ascii "pid\tpic\tplf\tpcf\tcaf\tcap\ttxf\ttxp\tocf\tocp\tmcf"

-- the name of a table by its number, from 1
unfoldable pub table_name : ℕ → Name
table_name t = heading table_names t

-- a table has a name for each of its columns
pub each_named : (t : Table) → length (columns_of (headings t)) ≡ length (schema t)
unfolding headings columns_of columns_from schema pid pic plf pcf caf cap txf txp ocf ocp mcf
each_named Pid = refl
each_named Pic = refl
each_named Plf = refl
each_named Pcf = refl
each_named Caf = refl
each_named Cap = refl
each_named Txf = refl
each_named Txp = refl
each_named Ocf = refl
each_named Ocp = refl
each_named Mcf = refl

pub record Examples : Type 0 where
  pub valid : column_name Pcf 8 ≡ name_of (ascii "VALID")
  pub no_column : column_name Cap 4 ≡ name_of []
  pub whole_row : column_name Pid 0 ≡ name_of []
  pub fourth : table_name 4 ≡ name_of (ascii "pcf")

pub examples : Examples
unfolding column_name table_name heading headings columns_of columns_from
examples = record { valid = refl; no_column = refl; whole_row = refl; fourth = refl }
