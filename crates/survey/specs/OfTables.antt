-- The survey of a file by the tables of a directory.
use Rattle.std.specs.Prelude.{◌≡◌, ℕ, true, false, List}
use Rattle.tables.specs.Parts.{tables_in}
use Rattle.tables.specs.Sizes.{sizes_of, refused_by}
use Rattle.database.specs.GoodRows.{of_tables}
use Rattle.directories.specs.declared.Loaded.{Loaded}
use Rattle.directories.specs.Space.{DirectoryInto}
use Rattle.surveying.specs.declared.asking.Question.{Question}
use Rattle.surveying.specs.declared.archive.Standing.{Standing}
use Rattle.surveying.specs.Archive.{nothing_read, SurveyedFile}

-- by the good rows of the tables; where these are refused, nothing is read
pub record OfTables (texts : List (List ℕ)) (name : List ℕ) (question : Question) (after : Standing) : Type 0 where
  pub file : SurveyedFile (of_tables texts) name question after
  pub refused : (number place : ℕ) → sizes_of texts ≡ refused_by number place → after ≡ nothing_read

-- the space before and after the tables are loaded into it; where not all could be read, nothing else is
pub record OfDirectory (before space name : List ℕ) (question : Question) (after : Standing) : Type 0 where
  pub loaded : Loaded
  pub into : DirectoryInto loaded before space
  pub whole : loaded.whole ≡ true → OfTables (tables_in space loaded.ends) name question after
  pub unread : loaded.whole ≡ false → after ≡ nothing_read
