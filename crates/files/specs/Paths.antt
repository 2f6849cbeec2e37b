-- The file of a table in a directory.
use Rattle.std.specs.Prelude.{ℕ, ◌≡◌, refl, List, [], ◌++◌, cond, leb, length, drop}
use Rattle.laws.specs.Text.{ascii}
use Rattle.lines.specs.Columns.{columns_of, columns_from, part_of}
use Rattle.name_bytes.specs.Names.{name_of}
use Rattle.name_bytes.specs.declared.Name.{Name}
use Rattle.table_names.specs.Headings.{table_name, heading}

-- the bytes of a name
abbrev pub letters : Name → List ℕ
letters n = part_of n.bytes 0 n.len

-- the file of the table with this number, from 1: "pid.dat" to "ocp.dat"
unfoldable pub file_of : ℕ → List ℕ
file_of t = letters (table_name t) ++ ascii ".dat"

-- its path, with a slash after the directory; none is made of a directory's name over 4,096 bytes
unfoldable pub path_of : List ℕ → ℕ → List ℕ
path_of directory t = cond (leb (length directory) 4096) (directory ++ ascii "/" ++ file_of t) []

-- a text put at the start of a buffer, in which the bytes behind it stay as they were
abbrev pub put_first : (text buffer : List ℕ) → List ℕ
put_first text buffer = text ++ drop (length text) buffer

pub record Examples : Type 0 where
  pub fourth : path_of (ascii "thermal") 4 ≡ ascii "thermal/pcf.dat"
  pub put : put_first (ascii "pcf") (ascii "thermal") ≡ ascii "pcfrmal"

pub examples : Examples
unfolding path_of file_of table_name heading name_of columns_of columns_from
examples = record { fourth = refl; put = refl }
