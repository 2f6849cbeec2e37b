-- The lines that set tables, the packet and the limit state.
use Rattle.std.specs.Prelude.{ℕ, ◌+◌, ◌≡◌, refl, Bool, true, false, cond, List, [], ◌∷◌, ◌++◌, eqb, ltb, length, get_or, replicate}
use Rattle.std.specs.Prelude as rust
use Rattle.std.proofs.Math.Option.{Option, some, none}
use Rattle.laws.specs.Text.{ascii}
use Rattle.numbers.specs.Number.{number_of, answer_of, meaning, spelt, after, digit_on, digit_of}
use Rattle.lines.specs.Columns.{columns_of, columns_from, column_at, part_of}
use Rattle.limit_state.specs.declared.state.LimitState.{LimitState}
use Rattle.settings.specs.declared.SetLine.{SetLine}
use Rattle.escapes.specs.Escapes.{byte_of, unescaped, hex_bytes, row_bytes, where_room, before, before_byte, plain}
use Rattle.scripts.specs.Words.{setting_of}
use Rattle.scripts.specs.Numerals.{natural_in, natural_of, at_most}
use Rattle.areas.specs.Memory.{Memory, KeptMemory, memory, added, cleared, all_cleared, packet_area, area_count}
use Rattle.areas.specs.Memory.{unread}

-- the places of the words that follow `packet` in the list of settings
abbrev pub packet_more : ℕ
packet_more = packet_area + 1

abbrev pub filling : ℕ
filling = packet_area + 2

abbrev pub clearing : ℕ
clearing = packet_area + 3

abbrev pub state_setting : ℕ
state_setting = packet_area + 4

-- and how many words there are
abbrev pub setting_count : ℕ
setting_count = packet_area + 5

-- the bytes of a line: a table's row, the digits of a packet, or a text, as far as a buffer of 65,537 bytes holds them
unfoldable pub setting_bytes : ℕ → List ℕ → Option (List ℕ)
setting_bytes k raw =
    cond (ltb k packet_area) (where_room 65537 (raw ++ 10 ∷ []) (row_bytes raw))
    (cond (ltb k filling) (where_room 65537 raw (hex_bytes raw)) (where_room 65537 raw (unescaped raw)))

-- the byte of two digits; 256 is none
unfoldable pub byte_in : List ℕ → ℕ
byte_in text = cond (eqb (length text) 2) (byte_of (get_or text 0 0) (get_or text 1 0)) 256

-- a byte so many times, at most as often as a buffer holds it
unfoldable pub run_bytes : (byte count : ℕ) → List ℕ
run_bytes byte count = part_of (replicate 65537 byte) 0 count

unfoldable pub add_run : Memory → ℕ → (byte : ℕ) → rust.Option ℕ → KeptMemory
add_run m t byte (rust.Some count) = added m t (run_bytes byte count)
add_run m t byte rust.None = unread m

-- PLACE|COUNT|BYTE
unfoldable pub add_fill : Memory → List ℕ → KeptMemory
add_fill m text =
    cond (eqb (length (columns_of text)) 3)
    (cond (ltb 255 (byte_in (column_at (columns_of text) 2))) (unread m)
    (add_run m (setting_of (column_at (columns_of text) 0)) (byte_in (column_at (columns_of text) 2))
    (at_most 65537 (natural_in (column_at (columns_of text) 1)))))
    (unread m)

-- `clear`, and `clear PLACE`
unfoldable pub clear_named : Memory → List ℕ → KeptMemory
clear_named m name =
    cond (eqb (length name) 0) (record { readable = true; space = m.space; ends = all_cleared m.ends })
    (cond (ltb (setting_of name) area_count) (record { readable = true; space = m.space; ends = cleared m.ends (setting_of name) }) (unread m))

-- the memory after the bytes of a line: `packet HEX` and `packet+ HEX`, `fill`, or `TABLE ROW`
unfoldable pub set_area : ℕ → Memory → List ℕ → KeptMemory
set_area k m bytes =
    cond (eqb k packet_area) (added (memory m.space (cleared m.ends packet_area)) packet_area bytes)
    (cond (eqb k packet_more) (added m packet_area bytes)
    (cond (eqb k filling) (add_fill m bytes) (added m k bytes)))

-- FRESH|APID|COUNT|RUN|ANNOUNCED
unfoldable pub state_of : LimitState → rust.Option ℕ → rust.Option ℕ → rust.Option ℕ → rust.Option ℕ → rust.Option ℕ → SetLine
state_of s (rust.Some fresh) (rust.Some apid) (rust.Some count) (rust.Some run) (rust.Some announced) =
    record { readable = true; state = record { fresh = eqb fresh 1; apid = apid; count = count; run = run; announced = announced } }
state_of s rust.None apid count run announced = record { readable = false; state = s }
state_of s (rust.Some fresh) rust.None count run announced = record { readable = false; state = s }
state_of s (rust.Some fresh) (rust.Some apid) rust.None run announced = record { readable = false; state = s }
state_of s (rust.Some fresh) (rust.Some apid) (rust.Some count) rust.None announced = record { readable = false; state = s }
state_of s (rust.Some fresh) (rust.Some apid) (rust.Some count) (rust.Some run) rust.None = record { readable = false; state = s }

unfoldable pub state_text : LimitState → List ℕ → SetLine
state_text s text =
    cond (eqb (length (columns_of text)) 5)
    (state_of s (at_most 1 (natural_in (column_at (columns_of text) 0)))
    (at_most 65535 (natural_in (column_at (columns_of text) 1))) (at_most 65535 (natural_in (column_at (columns_of text) 2)))
    (at_most 255 (natural_in (column_at (columns_of text) 3))) (at_most 255 (natural_in (column_at (columns_of text) 4))))
    (record { readable = false; state = s })

-- whether a line could be read, and the memory and the limit state after it
pub record Settled : Type 0 where
  pub readable : Bool
  pub space : List ℕ
  pub ends : List ℕ
  pub state : LimitState

abbrev pub settled : Bool → (space ends : List ℕ) → LimitState → Settled
settled readable space ends state = record { readable = readable; space = space; ends = ends; state = state }

-- a line sets the limit state, or the memory
abbrev pub state_set : Memory → SetLine → Settled
state_set m l = settled l.readable m.space m.ends l.state

abbrev pub memory_set : LimitState → KeptMemory → Settled
memory_set s m = settled m.readable m.space m.ends s

unfoldable pub set_text : ℕ → Memory → LimitState → List ℕ → Settled
set_text k m s text = cond (eqb k state_setting) (state_set m (state_text s text)) (memory_set s (set_area k m text))

-- a line whose bytes can't be read sets nothing
unfoldable pub set_bytes : ℕ → Memory → LimitState → Option (List ℕ) → Settled
set_bytes k m s none = settled false m.space m.ends s
set_bytes k m s (some text) = set_text k m s text

-- what a line sets, by its word's place in the list of settings; `clear` names its area without escapes
unfoldable pub set_line : ℕ → Memory → LimitState → List ℕ → Settled
set_line k m s raw = cond (eqb k clearing) (memory_set s (clear_named m raw)) (set_bytes k m s (setting_bytes k raw))

pub record Examples (s : LimitState) : Type 0 where
  pub no_packet : set_line packet_area (memory [] (1 ∷ 70000 ∷ [])) s (ascii "080") ≡ settled false [] (1 ∷ 70000 ∷ []) s
  pub state : set_line state_setting (memory [] []) s (ascii "0|10|9|2|1")
      ≡ settled true [] [] (record { fresh = false; apid = 10; count = 9; run = 2; announced = 1 })

pub examples : (s : LimitState) → Examples s
unfolding
    set_line set_bytes set_text setting_bytes hex_bytes state_text state_of where_room unescaped before before_byte plain byte_of
    columns_of columns_from at_most natural_in natural_of number_of answer_of meaning spelt after digit_on digit_of
examples s = record { no_packet = refl; state = refl }
