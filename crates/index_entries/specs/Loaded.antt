-- The packets of loaded tables.
use Rattle.std.specs.Prelude.{ℕ, ◌≡◌, refl, List, cond, Result, Ok, Err}
use Rattle.key_symbols.specs.declared.FiveNumbers.{FiveNumbers}
use Rattle.database.specs.Arrays.{database, answers}
use Rattle.packet_rows.specs.Packets.{packets_by}
use Rattle.packet_index.specs.Index.{Packets, zeros, is_packet, numbers_at, of_subtype, three}

-- the good VALID Y rows of pid, as the database that stands in lent arrays tells them
abbrev pub packets_in : (texts : List (List ℕ)) (words links columns : List ℕ) → Packets
packets_in texts words links columns = packets_by (answers (database texts words links columns))

-- the five numbers of a row, and whether it is one of the packets
unfoldable pub entry_of : Packets → (row : ℕ) → Result FiveNumbers FiveNumbers
entry_of packets row = cond (is_packet packets row) (Ok (numbers_at packets row)) (Err (numbers_at packets row))

pub record Examples : Type 0 where
  pub packet : entry_of three 4 ≡ Ok (of_subtype 17)
  pub bad_row : entry_of three 3 ≡ Err zeros
  pub no_row : entry_of three 0 ≡ Err zeros

pub examples : Examples
unfolding entry_of is_packet numbers_at
examples = record { packet = refl; bad_row = refl; no_row = refl }
