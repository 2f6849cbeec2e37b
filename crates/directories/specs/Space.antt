-- The tables in the space that they are read into, each in its own part.
use Rattle.std.specs.Prelude.{◌≡◌, ℕ, suc, ◌+◌, ◌*◌, ◌<◌, ◌≤◌, Bool, true, false, cond, ◌&&◌, ◌⊎◌, List, [], ◌∷◌, length, take, drop, replicate, nat_le, nat_lt, slice_index, slice_index_or, slice_set, refl, Some, None, Ok, Err}
use Rattle.std.specs.declared.io.ErrorKind.TheVariants.{PermissionDenied}
use Rattle.verdicts.specs.Entries.{table_count}
use Rattle.tables.specs.Parts.{part_size}
use Rattle.directories.specs.declared.Loaded.{Loaded}
use Rattle.files.specs.Reads.{Got, Within}

-- where a table of so many bytes ends; 0 for what is no table, or more than its room
unfoldable pub end_of : ℕ → ℕ → ℕ
end_of t count = cond (nat_lt t table_count) (cond (nat_le count part_size) (t * part_size + count) 0) 0

-- each table ends in its own part of the space, or isn't there
pub record EndsInParts (ends : List ℕ) : Type 0 where
  pub own : (t : ℕ) → (slice_index ends t ≡ 0) ⊎ ((t * part_size ≤ slice_index ends t) × (slice_index ends t ≤ t * part_size + part_size))

-- One table

-- t is a table's number, from 0, and the space has its part
unfoldable pub has_part : List ℕ → ℕ → Bool
has_part space t = nat_lt t table_count && nat_le (t * part_size + part_size) (length space)

-- the space before and after table t is read, and what the system answered
pub record TableInto (t : ℕ) (got : Got) (before after : List ℕ) : Type 0 where
  -- no more than its part was read
  pub within : Within got part_size
  -- and nothing where there is no such part
  pub room : has_part before t ≡ false → got ≡ Ok None
  -- a table that is missing leaves the space as it was
  pub missing : got ≡ Ok None → after ≡ before
  -- any other leaves it so before and behind its part
  pub front : take (t * part_size) after ≡ take (t * part_size) before
  pub rest : drop (t * part_size + part_size) after ≡ drop (t * part_size + part_size) before

-- where a table ends by what the system answered; one that isn't there, or can't be read, ends at 0
abbrev pub end_by : ℕ → Got → ℕ
end_by t (Ok (Some count)) = end_of t count
end_by t (Ok None) = 0
end_by t (Err e) = 0

-- the ends after table t is read
abbrev pub ends_after : ℕ → Got → List ℕ → List ℕ
ends_after t (Ok (Some count)) ends = slice_set ends t (end_of t count)
ends_after t (Ok None) ends = ends
ends_after t (Err e) ends = ends

-- a file that isn't there is an empty table; only one that can't be read stops an import
abbrev pub is_read : Got → Bool
is_read (Ok (Some count)) = true
is_read (Ok None) = true
is_read (Err e) = false

-- the space and the ends before and after table t is loaded, and whether it could be read:
-- all by one answer of the system
pub record TableLoaded (t : ℕ) (read : Bool) (before after ends ends' : List ℕ) : Type 0 where
  pub answer : Got
  pub into : TableInto t answer before after
  pub kept : ends' ≡ ends_after t answer ends
  pub told : read ≡ is_read answer

-- All tables

-- where the tables from t on end, by the system's answers
unfoldable pub ends_by : ℕ → List Got → List ℕ
ends_by t [] = []
ends_by t (got ∷ gots) = end_by t got ∷ ends_by (suc t) gots

unfoldable pub all_read : List Got → Bool
all_read [] = true
all_read (got ∷ gots) = is_read got && all_read gots

unfoldable pub loaded_by : List Got → Loaded
loaded_by gots = record { ends = ends_by 0 gots; whole = all_read gots }

-- the answer for table t, from 0; past the last there is no table
abbrev pub answer_for : List Got → ℕ → Got
answer_for gots t = slice_index_or gots t (Ok None)

-- the part of table t holds what it held
abbrev pub SamePart : (before after : List ℕ) → ℕ → Type 0
SamePart before after t = (k : ℕ) → k < part_size → slice_index after (t * part_size + k) ≡ slice_index before (t * part_size + k)

-- the space before and after the tables are loaded, and what is answered:
-- all by one answer of the system for each table
pub record LoadedInto (loaded : Loaded) (before after : List ℕ) : Type 0 where
  pub answers : List Got
  pub count : length answers ≡ table_count
  pub answered : loaded ≡ loaded_by answers
  pub within : (t : ℕ) → Within (answer_for answers t) part_size
  pub room : (t : ℕ) → has_part before t ≡ false → answer_for answers t ≡ Ok None
  -- what is missing leaves its part as it was, and so are all bytes behind the last part
  pub untouched : (t : ℕ) → answer_for answers t ≡ Ok None → SamePart before after t

-- nothing is loaded
abbrev pub not_loaded : Loaded
not_loaded = record { ends = replicate table_count 0; whole = false }

-- the tables of a directory, or nothing where there is no such directory
abbrev pub DirectoryInto : Loaded → (before after : List ℕ) → Type 0
DirectoryInto loaded before after = ((loaded ≡ not_loaded) × (after ≡ before)) ⊎ LoadedInto loaded before after

pub record Examples : Type 0 where
  -- a table of five bytes, one that isn't there, and one of three
  pub three : loaded_by (Ok (Some 5) ∷ Ok None ∷ Ok (Some 3) ∷ []) ≡ record { ends = 5 ∷ 0 ∷ 131077 ∷ []; whole = true }
  pub failed : all_read (Ok (Some 5) ∷ Err PermissionDenied ∷ []) ≡ false

pub examples : Examples
unfolding loaded_by ends_by all_read end_of
examples = record { three = refl; failed = refl }
