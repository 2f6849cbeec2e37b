-- What a row says of keys, part by part.
use Rattle.std.specs.Prelude.{◌≡◌, refl, Bool, not, cond, ℕ, eqb, Option, Some, None}
use Rattle.symbols.specs.declared.Symbol.{Symbol}
use Rattle.key_symbols.specs.Keyed.{symbol, no_symbol}
use Rattle.row_keys.specs.declared.records.Named.{Named}
use Rattle.row_keys.specs.declared.records.Counting.{Counting}
use Rattle.row_keys.specs.declared.records.RowKeys.{RowKeys}

-- the key that a row may hold or be counted in
abbrev pub key_in : Option Symbol → Symbol
key_in None = no_symbol
key_in (Some s) = s

abbrev pub no_name : Named
no_name = record { code = 0; key = no_symbol }

abbrev pub is_named : Named → Bool
is_named n = not (eqb n.code 0)

abbrev pub no_count : Counting
no_count = record { column = 0; number = 0 }

-- a row that holds these keys, and names and counts nothing
abbrev pub holding : (verdict : ℕ) (first second : Option Symbol) (marks : ℕ) → RowKeys
holding verdict first second marks =
    record {
      verdict = verdict;
      first = first;
      second = second;
      one = no_name;
      two = no_name;
      group = None;
      count = no_count;
      marks = marks;
    }

-- of a row with one of reasons 1 to 8
abbrev pub no_keys : (verdict : ℕ) → RowKeys
no_keys verdict = holding verdict None None 0

abbrev pub holder : (verdict : ℕ) → Symbol → (marks : ℕ) → RowKeys
holder verdict key marks = holding verdict (Some key) None marks

abbrev pub with_names : RowKeys → (one two : Named) → RowKeys
with_names row one two =
    record {
      verdict = row.verdict;
      first = row.first;
      second = row.second;
      one = one;
      two = two;
      group = row.group;
      count = row.count;
      marks = row.marks;
    }

-- the row with what it names; where the first isn't given the second comes first
abbrev pub naming : RowKeys → (one two : Named) → RowKeys
naming row one two = cond (eqb one.code 0) (with_names row two one) (with_names row one two)

-- a row that counts the rows of the group that goes by its key
abbrev pub counter : (verdict : ℕ) → Symbol → (column number marks : ℕ) → RowKeys
counter verdict key column number marks =
    record {
      verdict = verdict;
      first = Some key;
      second = None;
      one = no_name;
      two = no_name;
      group = None;
      count = record { column = column; number = number };
      marks = marks;
    }

-- a row that is counted in the group that its first column names, by the manner with this code
abbrev pub member : (verdict : ℕ) → (key group : Symbol) → (code : ℕ) → RowKeys
member verdict key group code =
    record {
      verdict = verdict;
      first = Some key;
      second = None;
      one = record { code = code; key = group };
      two = no_name;
      group = Some group;
      count = no_count;
      marks = 1;
    }

abbrev given : Named
given = record { code = 4; key = symbol 5 0 0 0 }

pub record Examples : Type 0 where
  pub second_alone : (naming (holder 0 (symbol 4 0 0 0) 1) no_name given).one ≡ given

pub examples : Examples
examples = record { second_alone = refl }
