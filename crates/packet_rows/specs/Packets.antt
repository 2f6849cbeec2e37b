-- The rows that packets are identified by, by their numbers.
use Rattle.std.specs.Prelude as std
use Rattle.std.specs.Prelude.{ℕ, ◌≡◌, refl, [], ◌∷◌, Some, None}
use Rattle.std.proofs.Math.Option.{Option, none, some}
use Rattle.numbers.specs.Number.{digit_of, digit_on, after, spelt, meaning, number_of}
use Rattle.lines.specs.Columns.{columns_from, columns_of}
use Rattle.rows.specs.Values.{natural_from, natural_or, letter_of, valid_of}
use Rattle.decoding.specs.Records.{column, pid_row}
use Rattle.key_symbols.specs.declared.FiveNumbers.{FiveNumbers}
use Rattle.database.specs.Rows.{Row, Rows}
use Rattle.database.specs.Packets.{numbers_in, is_packet_row, pid_example}
use Rattle.database.specs.GoodRows.{among, find}

abbrev pub numbers_from : Option Row → Option FiveNumbers
numbers_from none = none
numbers_from (some row) = some (numbers_in row)

-- the five numbers of pid row number, if it is good and VALID Y. 02, P4: "the good VALID Y rows"
unfoldable pub packets_by : Rows → (number : ℕ) → Option FiveNumbers
packets_by rows number = numbers_from (rows.numbered number)

-- what the code's Option says
unfoldable pub said_packet : std.Option FiveNumbers → Option FiveNumbers
said_packet (Some numbers) = some numbers
said_packet None = none

pub record Examples : Type 0 where
  pub its_numbers : packets_by (among (pid_example 7 "3;25;10;4660;0;1000" ∷ [])) 7 ≡ some (record { ptype = 3; stype = 25; apid = 10; pi1 = 4660; pi2 = 0 })
  pub no_row : packets_by (among (pid_example 7 "3;25;10;4660;0;1000" ∷ [])) 1 ≡ none
  pub not_valid : packets_by (among (pid_example 8 "3;25;10;0;0;2000;;;;;;;N" ∷ [])) 8 ≡ none

pub examples : Examples
unfolding
    packets_by among find numbers_in is_packet_row
    pid_row column columns_of columns_from natural_or natural_from number_of meaning spelt after digit_on digit_of letter_of valid_of
examples = record { its_numbers = refl; no_row = refl; not_valid = refl }
