-- The columns of the tables, as 01 prints them under "Columns".
use Rattle.std.specs.Prelude.{List, [], ◌∷◌, pos, neg_ℤ}
use Rattle.laws.specs.Text.{ascii}
use Rattle.column_checks.specs.Schema.{Column, text, text!, integer, integer!, natural, natural!, letter, letter!, coefficient, coefficient! }
use Rattle.schemas.specs.declared.Table.{Table}
use Rattle.schemas.specs.declared.Table.TheVariants.{Pid, Pic, Plf, Pcf, Caf, Cap, Txf, Txp, Ocf, Ocp, Mcf}

-- VALPAR: "−9,999–65,535"
abbrev validity_value : Column
validity_value = integer 5 (neg_ℤ (pos 9999)) (pos 65535)

-- XVALS and YVALS: "each −1,073,741,824 to 1,073,741,823"
abbrev coordinate! : Column
coordinate! = integer! 14 (neg_ℤ (pos 1073741824)) (pos 1073741823)

-- FROM, TO, LVALU and HVALU: "−2,147,483,648–4,294,967,295"
abbrev raw_value! : Column
raw_value! = integer! 14 (neg_ℤ (pos 2147483648)) (pos 4294967295)

unfoldable pub pid : List Column
pid =
    -- TYPE, STYPE, APID, PI1_VAL, PI2_VAL, SPID
    natural! 3 0 255 ∷ natural! 3 0 255 ∷ natural! 5 0 65535 ∷ natural 10 0 2147483647 ∷ natural 10 0 2147483647 ∷ natural! 10 1 4294967295
    -- DESCR, UNIT, TPSD, DFHSIZE, TIME, INTER, VALID, CHECK, EVENT, EVID
    ∷ text 64 ∷ text 8 ∷ text 10 ∷ text 2 ∷ text 1 ∷ text 8 ∷ letter (ascii "YN") ∷ text 1 ∷ text 1 ∷ text 17 ∷ []

unfoldable pub pic : List Column
pic =
    -- TYPE, STYPE
    natural! 3 0 255 ∷ natural! 3 0 255
    -- PI1_OFF, PI1_WID, PI2_OFF, PI2_WID
    ∷ integer! 5 (neg_ℤ (pos 1)) (pos 8191) ∷ natural! 3 0 32 ∷ integer! 5 (neg_ℤ (pos 1)) (pos 8191) ∷ natural! 3 0 32
    -- APID
    ∷ natural 5 0 65535 ∷ []

unfoldable pub plf : List Column
plf =
    -- NAME, SPID, OFFBY, OFFBI
    text! 8 ∷ natural! 10 1 4294967295 ∷ natural! 5 0 8191 ∷ natural! 1 0 7
    -- NBOCC, LGOCC, TIME, TDOCC
    ∷ natural 4 1 9999 ∷ natural 5 0 32767 ∷ text 9 ∷ text 9 ∷ []

unfoldable pub pcf : List Column
pcf =
    -- NAME, DESCR, PID, UNIT, PTC, PFC, WIDTH, VALID, RELATED
    text! 8 ∷ text 24 ∷ text 10 ∷ text 4 ∷ natural! 2 0 99 ∷ natural! 5 0 65535 ∷ text 6 ∷ text 8 ∷ text 8
    -- CATEG, NATUR, CURTX, INTER
    ∷ letter! (ascii "NST") ∷ letter! (ascii "RDPHSC") ∷ text 10 ∷ letter (ascii "PF")
    -- USCON, DECIM, PARVAL, SUBSYS, VALPAR, SPTYPE, CORR, OBTID, DARC, ENDIAN
    ∷ text 1 ∷ text 3 ∷ text 14 ∷ text 8 ∷ validity_value ∷ text 1 ∷ text 1 ∷ text 5 ∷ text 1 ∷ text 1 ∷ []

unfoldable pub caf : List Column
caf =
    -- NUMBR, DESCR, ENGFMT, RAWFMT
    text! 10 ∷ text 32 ∷ letter! (ascii "IUR") ∷ letter! (ascii "IUR")
    -- RADIX, UNIT, NCURVE, INTER
    ∷ letter (ascii "DHO") ∷ text 4 ∷ natural! 3 2 100 ∷ letter (ascii "PF") ∷ []

unfoldable pub cap : List Column
cap =
    -- NUMBR, XVALS, YVALS
    text! 10 ∷ coordinate! ∷ coordinate! ∷ []

unfoldable pub txf : List Column
txf =
    -- NUMBR, DESCR, RAWFMT, NALIAS
    text! 10 ∷ text 32 ∷ letter! (ascii "IUR") ∷ natural! 3 1 999 ∷ []

unfoldable pub txp : List Column
txp =
    -- NUMBR, FROM, TO, ALTXT
    text! 10 ∷ raw_value! ∷ raw_value! ∷ text! 14 ∷ []

unfoldable pub ocf : List Column
ocf =
    -- NAME, NBCHCK, NBOOL, INTER, CODIN
    text! 8 ∷ natural! 2 1 99 ∷ natural! 2 1 16 ∷ letter! (ascii "UC") ∷ letter! (ascii "RAI") ∷ []

unfoldable pub ocp : List Column
ocp =
    -- NAME, POS, TYPE, LVALU, HVALU, RLCHK, VALPAR
    text! 8 ∷ natural! 2 0 99 ∷ letter! (ascii "SHDCE") ∷ raw_value! ∷ raw_value! ∷ text 8 ∷ validity_value ∷ []

-- 02, P1: "IDENT 10!, DESCR 32, POL1 14!, POL2 to POL5 14 each"
unfoldable pub mcf : List Column
mcf =
    -- IDENT, DESCR
    text! 10 ∷ text 32
    -- POL1, POL2, POL3, POL4, POL5
    ∷ coefficient! 14 ∷ coefficient 14 ∷ coefficient 14 ∷ coefficient 14 ∷ coefficient 14 ∷ []

unfoldable pub schema : Table → List Column
schema Pid = pid
schema Pic = pic
schema Plf = plf
schema Pcf = pcf
schema Caf = caf
schema Cap = cap
schema Txf = txf
schema Txp = txp
schema Ocf = ocf
schema Ocp = ocp
schema Mcf = mcf
