-- What loading tables answers, and what it leaves in the arrays of the database.
use Rattle.std.specs.Prelude.{ℕ, min, ◌≡◌, refl, Bool, false, ◌&&◌, List, [], leb, length, replicate, Result, Ok, Err}
use Rattle.arrays.specs.Room.{most_places}
use Rattle.symbols.specs.Arrays.{all_words, all_links}
use Rattle.tables.specs.Sizes.{fit, size_refusal, sizes_of}
use Rattle.judged.specs.Passes.{JudgedInto}
use Rattle.indexing.specs.Indexing.{IndexedBy}
use Rattle.database.specs.Arrays.{all_columns, database, answers}
use Rattle.database.specs.GoodRows.{of_tables}
use Rattle.kept.specs.declared.KeepError.{KeepError}
use Rattle.kept.specs.declared.KeepError.TheVariants.{Sizes, NoRoom}

-- the arrays of the database
pub record Lent : Type 0 where
  pub words : List ℕ
  pub links : List ℕ
  pub columns : List ℕ

abbrev pub lent : (words links columns : List ℕ) → Lent
lent words links columns = record { words = words; links = links; columns = columns }

-- they have all their places
abbrev pub all_lent : Lent → Bool
all_lent l = leb all_words (length l.words) && (leb all_links (length l.links) && leb all_columns (length l.columns))

-- none of them is there
example : all_lent (lent [] [] []) ≡ false
example = refl

-- 01: "A refusal writes nothing". Once tables are loaded, the database answers what they do
unfoldable pub Loads : List (List ℕ) → Lent → Lent → Result Unit KeepError → Type 0
Loads texts before after (Ok done) = (sizes_of texts ≡ fit) × (answers (database texts after.words after.links after.columns) ≡ of_tables texts)
Loads texts before after (Err (Sizes error)) = (sizes_of texts ≡ size_refusal error) × (after ≡ before)
Loads texts before after (Err NoRoom) = (sizes_of texts ≡ fit) × (all_lent before ≡ false) × (after ≡ before)

-- the rows that are kept are judged, and the good ones indexed
pub record IndexMade (halves bytes columns : List ℕ) (n : ℕ) : Type 0 where
  pub cells : List ℕ
  pub judged : JudgedInto halves bytes (replicate most_places 0) cells n
  pub indexed : IndexedBy halves bytes cells columns (min n most_places)
