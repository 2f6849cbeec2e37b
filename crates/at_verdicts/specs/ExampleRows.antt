-- Small rows, by which examples read 01's packet.
use Rattle.std.specs.Prelude.{ℕ, ◌≡◌, true, cond, [], ◌∷◌, map, eqb, pos}
use Prim.Native.String.{String}
use Rattle.std.proofs.Math.Option.{some}
use Rattle.laws.specs.Text.{ascii, char}
use Rattle.name_bytes.specs.Names.{name_of}
use Rattle.rows.specs.declared.letters.OffEnds.{OffEnds}
use Rattle.fields.specs.Figures.{packet}
use Rattle.outcomes.specs.Outcome.{answer}
use Rattle.verdicts.specs.Key.{location, parameter}
use Rattle.database.specs.Rows.{Row, Rows}
use Rattle.database.specs.GoodRows.{among}
use Rattle.headers.specs.declared.Head.{Head}
use Rattle.identification.specs.Identification.{Identity, identify_by}
use Rattle.curve_points.specs.Curves.{Curve}
use Rattle.limit_state.specs.declared.state.LimitState.{LimitState}
use Rattle.at_verdicts.specs.Placed.{Placed}

-- here ";" stands for TAB
abbrev pub line : (table : ℕ) → String → Row
line table text = record { table = table; number = 1; start = 0; bytes = map (λ b. cond (eqb b (char ";")) 9 b) (ascii text) }

-- 01's packet, of APID 10 and count 0, is one of SPID 7
abbrev pub pid_line : Row
pid_line = line 0 "3;25;10;0;0;7"

abbrev pub seven : Identity
seven = record { row = 1; spid = 7; numbers = record { ptype = 3; stype = 25; apid = 10; pi1 = 0; pi2 = 0 } }

abbrev pub figure : Head
figure = record { flagged = true; apid = 10; count = 0 }

abbrev pub new : LimitState
new = record { fresh = true; apid = 0; count = 0; run = 0; announced = 0 }

-- T1 is signed 8 at byte 10, so -1, and off its curve, which is F and from 0 to 10
abbrev pub off : Rows
off =
    among (
    pid_line ∷ line 2 "T1;7;10;0" ∷ line 3 "T1;;;;4;4;;;;N;R;C1" ∷ line 4 "C1;;I;I;;;2;F" ∷ line 5 "C1;0;0" ∷ line 5 "C1;10;100" ∷ line 8 "T1;1;1;C;I" ∷ []
    )

-- T1 is unsigned 16 at byte 12, so 4,660, and a million times that is out of range
abbrev pub out : Rows
out =
    among (
    pid_line ∷ line 2 "T1;7;12;0" ∷ line 3 "T1;;;;3;12;;;;N;R;C1" ∷ line 4 "C1;;I;I;;;2;P" ∷ line 5 "C1;0;0" ∷ line 5 "C1;1;1000000" ∷ line 8 "T1;1;1;C;I" ∷ []
    )

-- the same with a text from 0 to 100 only
abbrev pub textless : Rows
textless = among (pid_line ∷ line 2 "T1;7;12;0" ∷ line 3 "T1;;;;3;12;;;;S;R;X1" ∷ line 7 "X1;0;100;LOW" ∷ [])

-- T1 has two occurrences of 16 bits, of which the second leaves the packet
abbrev pub leaves : Rows
leaves = among (pid_line ∷ line 2 "T1;7;12;0;2;16" ∷ line 3 "T1;;;;3;12;;;;N;R" ∷ line 8 "T1;1;1;U;I" ∷ [])

-- T1 is a string of two bytes from bit 1 of byte 10 on
abbrev pub string : Rows
string = among (pid_line ∷ line 2 "T1;7;10;1" ∷ line 3 "T1;;;;8;2;;;;T;R" ∷ [])

-- from (0,0) on
abbrev pub curve : OffEnds → (x y : ℕ) → Curve
curve ends x y = record { ends = ends; xs = pos 0 ∷ pos x ∷ []; ys = pos 0 ∷ pos y ∷ [] }

abbrev pub placed_by : (rows : Rows) (plf pcf : Row) → identify_by rows packet ≡ answer seven → rows.holder (location (name_of (ascii "T1")) 7) ≡ some plf
    → rows.holder (parameter (name_of (ascii "T1"))) ≡ some pcf → Placed rows packet (ascii "T1")
placed_by rows plf pcf i l d = record { identity = seven; identified = i; plf = plf; has_place = l; pcf = pcf; described = d }
