-- The rows that packets are identified by.
use Rattle.std.specs.Prelude.{ℕ, ◌≡◌, refl, Bool, true, false, cond, ◌&&◌, map, eqb}
use Prim.Native.String.{String}
use Rattle.laws.specs.Text.{ascii, char}
use Rattle.numbers.specs.Number.{digit_of, digit_on, after, spelt, meaning, number_of}
use Rattle.lines.specs.Columns.{columns_from, columns_of}
use Rattle.schemas.specs.declared.Table.TheVariants.{Pid}
use Rattle.rows.specs.Values.{natural_from, natural_or, letter_of, valid_of}
use Rattle.decoding.specs.Records.{column, pid_row}
use Rattle.rows.specs.declared.records.PidRow.{PidRow}
use Rattle.rows.specs.declared.letters.Valid.{Valid}
use Rattle.rows.specs.declared.letters.Valid.TheVariants.{Yes, No}
use Rattle.verdicts.specs.Entries.{carried_at}
use Rattle.key_symbols.specs.declared.FiveNumbers.{FiveNumbers}
use Rattle.database.specs.Rows.{Row}

-- the number of pid, from 0. 01: "tables pid, pic, plf, … in that order"
abbrev pub pid_table : ℕ
pid_table = 0

-- 01: "the first five numbers"
abbrev pub five_of : PidRow → FiveNumbers
five_of r = record { ptype = r.ptype; stype = r.stype; apid = r.apid; pi1 = r.pi1; pi2 = r.pi2 }

unfoldable pub numbers_in : Row → FiveNumbers
numbers_in row = five_of (pid_row row.bytes)

abbrev pub is_yes : Valid → Bool
is_yes Yes = true
is_yes No = false

-- row number of pid, if it is VALID Y. 01: "N rows have no key"
unfoldable pub is_packet_row : (number : ℕ) → Row → Bool
is_packet_row number row = eqb row.table pid_table && (eqb row.number number && is_yes (pid_row row.bytes).valid)

-- a row of pid, in which ";" stands for TAB
abbrev pub pid_example : (number : ℕ) → String → Row
pid_example number text = record { table = 0; number = number; start = 0; bytes = map (λ b. cond (eqb b (char ";")) 9 b) (ascii text) }

pub record Examples : Type 0 where
  pub its_table : carried_at pid_table ≡ Pid
  pub five : numbers_in (pid_example 7 "3;25;10;4660;0;1000") ≡ record { ptype = 3; stype = 25; apid = 10; pi1 = 4660; pi2 = 0 }
  pub is : is_packet_row 7 (pid_example 7 "3;25;10;4660;0;1000") ≡ true
  pub another : is_packet_row 8 (pid_example 7 "3;25;10;4660;0;1000") ≡ false
  pub not_valid : is_packet_row 7 (pid_example 7 "3;25;10;0;0;2000;;;;;;;N") ≡ false

pub examples : Examples
unfolding
    numbers_in is_packet_row pid_row column columns_of columns_from natural_or natural_from number_of meaning spelt after digit_on digit_of letter_of valid_of
examples = record { its_table = refl; five = refl; is = refl; another = refl; not_valid = refl }
