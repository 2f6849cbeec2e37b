-- The memory of a vector file: the tables and after them the packet, each in its own part of one space.
use Rattle.std.specs.Prelude.{ℕ, zero, suc, ◌+◌, ◌*◌, ◌≡◌, refl, Bool, true, false, cond, List, [], ◌∷◌, ltb, length, get_or, set}
use Rattle.std.proofs.lemmas.List.Edits.{sets}
use Rattle.laws.specs.Text.{ascii}
use Rattle.lines.specs.Columns.{part_of}
use Rattle.verdicts.specs.Entries.{table_count}
use Rattle.tables.specs.Parts.{part_size}
use Rattle.tables.specs.Parts as tables

-- the space, and where each area ends in it
pub record Memory : Type 0 where
  pub space : List ℕ
  pub ends : List ℕ

abbrev pub memory : (space ends : List ℕ) → Memory
memory space ends = record { space = space; ends = ends }

-- whether a line could be read, and the memory after it
pub record KeptMemory : Type 0 where
  pub readable : Bool
  pub space : List ℕ
  pub ends : List ℕ

abbrev pub kept : Bool → (space ends : List ℕ) → KeptMemory
kept readable space ends = record { readable = readable; space = space; ends = ends }

unfoldable pub unread : Memory → KeptMemory
unread m = record { readable = false; space = m.space; ends = m.ends }

-- the tables' areas come first, and the packet's after them
abbrev pub packet_area : ℕ
packet_area = table_count

abbrev pub area_count : ℕ
area_count = suc table_count

-- the space has a part for each
abbrev pub space_size : ℕ
space_size = area_count * part_size

-- what an area holds
unfoldable pub area_within : Memory → ℕ → List ℕ
area_within m t = cond (ltb t area_count) (part_of m.space (t * part_size) (get_or m.ends t 0)) []

unfoldable pub area_tables : Memory → List (List ℕ)
area_tables m = tables.tables_in m.space m.ends

-- an area without bytes
unfoldable pub cleared : List ℕ → ℕ → List ℕ
cleared ends t = cond (ltb t area_count) (set ends t (t * part_size)) ends

-- the first n of them
unfoldable pub first_cleared : ℕ → List ℕ → List ℕ
first_cleared zero ends = ends
first_cleared (suc n) ends = cleared (first_cleared n ends) n

unfoldable pub all_cleared : List ℕ → List ℕ
all_cleared ends = first_cleared area_count ends

-- bytes added to an area, where there is room for them
unfoldable pub added : Memory → ℕ → List ℕ → KeptMemory
added m t bytes =
    cond (ltb t area_count)
    (cond (ltb (length m.space) (t * part_size + part_size)) (unread m)
    (cond (ltb (t * part_size + part_size) (get_or m.ends t 0 + length bytes)) (unread m)
    (record { readable = true; space = sets m.space (get_or m.ends t 0) bytes; ends = set m.ends t (get_or m.ends t 0 + length bytes) })))
    (unread m)

-- the first area holds a byte; the second is emptied; a space that is too small takes nothing
pub record Examples : Type 0 where
  pub first : area_within (memory (ascii "AB") (1 ∷ [])) 0 ≡ ascii "A"
  pub emptied : cleared (1 ∷ 70000 ∷ []) 1 ≡ 1 ∷ 65537 ∷ []
  pub too_small : added (memory (ascii "AB") (1 ∷ [])) 0 (ascii "C") ≡ kept false (ascii "AB") (1 ∷ [])

pub examples : Examples
unfolding area_within cleared added unread
examples = record { first = refl; emptied = refl; too_small = refl }
