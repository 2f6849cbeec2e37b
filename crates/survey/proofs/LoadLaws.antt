-- What is surveyed over a database that was loaded is surveyed over the tables.
use Rattle.std.proofs.Common.{◌≡◌, ℕ, true, false, List, subst}
use Rattle.std.specs.Prelude.{Result, Ok}
use Rattle.outcomes.specs.declared.Refusal.{Refusal}
use Rattle.tables.specs.Parts.{tables_in}
use Rattle.database.specs.Rows.{Rows}
use Rattle.database.specs.Arrays.{database, answers}
use Rattle.loading.specs.Loaded.{Lent}
use Rattle.full_loading.specs.FullLoads.{FullLoads}
use Rattle.directories.specs.declared.Loaded.{Loaded}
use Rattle.directories.specs.Space.{DirectoryInto}
use Rattle.surveying.specs.declared.asking.Question.{Question}
use Rattle.surveying.specs.declared.archive.Standing.{Standing}
use Rattle.surveying.specs.Archive.{nothing_read, SurveyedFile}
use Rattle.surveying.proofs.ArchiveLaws.{surveyed_start}
use Rattle.survey.specs.OfTables.{OfTables, OfDirectory}

module _ (texts : List (List ℕ)) {name : List ℕ} {question : Question} where
  pub of_loaded : (before after : Lent) {r : Result Unit Refusal} → FullLoads texts before after r → {done : Unit} → r ≡ Ok done
      → {s : Standing} → SurveyedFile (answers (database texts after.words after.links after.columns)) name question s
      → OfTables texts name question s
  unfolding FullLoads
  of_loaded before after l e {s} f =
      let k = subst (FullLoads texts before after) e l in
      let fits = k.0 in
      record {
        file = subst (λ (rows : Rows). SurveyedFile rows name question s) k.1 f;
        refused = λ number place r. cc;
      }

  pub of_refused : {s : Standing} → s ≡ nothing_read → OfTables texts name question s
  of_refused {s} h = record { file = surveyed_start _ _ _ h; refused = λ number place r. h }

pub of_same : {texts tables : List (List ℕ)} {name : List ℕ} {question : Question} {s : Standing} → texts ≡ tables
    → OfTables texts name question s → OfTables tables name question s
of_same {name = name} {question = question} {s = s} e o = subst (λ (l : List (List ℕ)). OfTables l name question s) e o

module _ {before space name : List ℕ} {question : Question} {s : Standing} (loaded : Loaded) (into : DirectoryInto loaded before space) where
  pub of_whole : loaded.whole ≡ true → OfTables (tables_in space loaded.ends) name question s → OfDirectory before space name question s
  of_whole w o = record { loaded = loaded; into = into; whole = λ t. o; unread = λ f. cc }

  pub of_unread : loaded.whole ≡ false → s ≡ nothing_read → OfDirectory before space name question s
  of_unread f h = record { loaded = loaded; into = into; whole = λ t. of_refused _ h; unread = λ _. h }
