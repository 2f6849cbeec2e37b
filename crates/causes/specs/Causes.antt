-- The rows that a row's verdict speaks of: what a row with one of reasons 9 to 12 leans on.
use Rattle.std.specs.Prelude.{ℕ, ◌/◌, ◌%◌, Bool, false, cond, ◌&&◌, List, eqb}
use Rattle.laws.specs.Lists.{keep}
use Rattle.verdicts.specs.Entries.{Entry}
use Rattle.verdicts.specs.Steps.{rivals, names_at, counts}
use Rattle.verdicts.specs.Verdicts.{sound, follows, verdict}

-- 01: "A verdict is reason × 256 + column"
abbrev pub reason_of : ℕ → ℕ
reason_of v = v / 256

abbrev pub column_of_verdict : ℕ → ℕ
column_of_verdict v = v % 256

-- 01: "9 key held by another row too": every other row that holds one of its keys
abbrev pub shares : Entry → Entry → Bool
shares e o = rivals e o

-- 01: "10 count differs": the rows that are counted. 01:
-- "Only rows without reasons 1–9 hold keys for counting and chains"
abbrev pub counted : List Entry → Entry → Entry → Bool
counted rows e o = counts e o && sound rows o

-- 01: "12 VALID chain returns to this row": the next row of the chain
abbrev pub follower : List Entry → Entry → Entry → Bool
follower rows e o = follows e o && sound rows o

-- 01: "11 a named row isn't there, good and of the kind asked, lowest column":
-- every row that holds the key which that column names
abbrev pub named : (column : ℕ) → Entry → Entry → Bool
named column e o = names_at column e o

-- the verdict of e speaks of the row o
unfoldable pub speaks_of : List Entry → (verdict : ℕ) → Entry → Entry → Bool
speaks_of rows v e o =
    cond (eqb (reason_of v) 9) (shares e o)
    (cond (eqb (reason_of v) 10) (counted rows e o)
    (cond (eqb (reason_of v) 11) (named (column_of_verdict v) e o)
    (cond (eqb (reason_of v) 12) (follower rows e o)
    false)))

-- all rows that the verdict of e speaks of, in table order. A good row's, and those of reasons 1 to 8,
-- speak of the row alone
unfoldable pub causes : List Entry → Entry → List Entry
causes rows e = keep (speaks_of rows (verdict rows e) e) rows
