-- What a row holds, names, counts and is counted in, as symbols.
use Rattle.std.specs.Prelude.{◌≡◌, refl, true, false, List, [], ◌∷◌, ◌++◌, ℕ, drop, Option, Some, None}
use Rattle.laws.specs.Text.{ascii}
use Rattle.number_positions.specs.Positions.{no_digits}
use Rattle.numbers.specs.Number.{number_of, meaning, spelt, after, digit_on, digit_of}
use Rattle.lines.specs.Lines.{Line, line_from, next_line}
use Rattle.name_bytes.specs.Names.{curve_name_of}
use Rattle.lines.specs.Columns.{columns_of, columns_from, foreign_in, allowed, printable}
use Rattle.schemas.specs.Reasons.{line_of, shape, first_reason}
use Rattle.column_checks.specs.ColumnReasons.{column_reason, kind_reason, number_reason}
use Rattle.schemas.specs.Tables.{schema, cap}
use Rattle.schemas.specs.declared.Table.{Table}
use Rattle.schemas.specs.declared.Table.TheVariants.{Cap}
use Rattle.rows.specs.Values.{integer_or, integer_from}
use Rattle.decoding.specs.Records.{column, cap_row}
use Rattle.contradictions.specs.Contradictions.{contradiction}
use Rattle.formed.specs.Formed.{or_contradiction, formed}
use Rattle.verdicts.specs.Key.{Key}
use Rattle.verdicts.specs.Facts.{Facts, Naming, Count, cap_facts, facts_of}
use Rattle.verdicts.specs.Entries.{reading_of, own, facts_in}
use Rattle.key_symbols.specs.Keyed.{digits_number, number_from, symbol, curve_symbol, value_symbol, integer_word, symbol_of}
use Rattle.symbols.specs.declared.Symbol.{Symbol}
use Rattle.row_keys.specs.declared.records.Named.{Named}
use Rattle.row_keys.specs.declared.records.Counting.{Counting}
use Rattle.row_keys.specs.declared.records.RowKeys.{RowKeys}
use Rattle.row_keys.specs.declared.records.LineKeys.{LineKeys}
use Rattle.row_keys.specs.Parts.{no_name, no_count, no_keys}
use Rattle.manners.specs.Manners.{manner_of, manners, weight, same_manner, code_from, code_of, marks_of}

-- the first of these keys
unfoldable pub slot_of : List Key → Option Symbol
slot_of [] = None
slot_of (k ∷ ks) = Some (symbol_of k)

-- the first of these namings
unfoldable pub named_of : List Naming → Named
named_of [] = no_name
named_of (n ∷ ns) = record { code = code_of (manner_of n); key = symbol_of n.key }

-- the first of these counts; its group goes by the row's own first key
unfoldable pub count_of : List Count → Counting
count_of [] = no_count
count_of (c ∷ cs) = record { column = c.column; number = c.number }

-- the facts of a row, as symbols
unfoldable pub keys_of : ℕ → Facts → RowKeys
keys_of verdict f =
    record {
      verdict = verdict;
      first = slot_of f.keys;
      second = slot_of (drop 1 f.keys);
      one = named_of f.names;
      two = named_of (drop 1 f.names);
      group = slot_of f.groups;
      count = count_of f.counts;
      marks = marks_of f.meets;
    }

-- what the columns say, whatever the verdict
abbrev pub column_keys : Table → Line → RowKeys
column_keys table line = keys_of (formed table line) (facts_of table line.bytes)

-- 01: "rows without 1–8 hold keys for reason 9": a row with one of reasons 1 to 8 holds, names and counts nothing
unfoldable pub row_keys_of : Table → Line → RowKeys
row_keys_of table line = keys_of (own (reading_of table line)) (facts_in (reading_of table line))

-- what is read of the line that starts at a place of a table: its keys, as its columns say them,
-- and where the next line starts
pub record ColumnsRead (table : Table) (bytes : List ℕ) (at : ℕ) (read : LineKeys) : Type 0 where
  pub keys : read.keys ≡ column_keys table (line_from bytes at)
  pub next : read.next ≡ (next_line bytes at).next

-- cap rows: C1, TAB, -3, TAB, 7; the same without its line feed
abbrev row : List ℕ
row = ascii "C1" ++ 9 ∷ ascii "-3" ++ 9 ∷ ascii "7"

pub record Examples : Type 0 where
  pub point : row_keys_of Cap (line_of row true)
      ≡ record {
        verdict = 0;
        first = Some (symbol 6 0x4331000000000000 0x20000 5);
        second = None;
        one = record { code = 9; key = symbol 5 0x4331000000000000 2 0 };
        two = no_name;
        group = Some (symbol 5 0x4331000000000000 2 0);
        count = no_count;
        marks = 1;
      }
  pub unended : row_keys_of Cap (line_of row false) ≡ no_keys 256

pub examples : Examples
unfolding row_keys_of keys_of slot_of named_of count_of marks_of symbol_of curve_symbol value_symbol digits_number number_from integer_word
    code_of code_from same_manner manners weight
    reading_of facts_of cap_facts cap_row curve_name_of integer_or integer_from formed or_contradiction contradiction shape schema cap foreign_in allowed printable
    column columns_of columns_from first_reason column_reason kind_reason number_reason no_digits number_of meaning spelt after digit_on digit_of
examples = record { point = refl; unended = refl }
