-- What is answered of a row: its verdict, and the rows that the verdict speaks of, by their places among all rows.
use Rattle.std.specs.Prelude.{ℕ, ◌-◌, ◌≡◌, refl, cond, ◌&&◌, List, [], ◌∷◌, length, Result, Ok, Err}
use Rattle.std.proofs.lemmas.List.Edits.{sets}
use Rattle.laws.specs.Prefix.{all_from}
use Rattle.lines.specs.Lines.{on_first, lead, lines_of}
use Rattle.verdicts.specs.Answer.{first_table, too_long, too_many_rows}
use Rattle.verdicts.specs.Entries.{all_rows}
use Rattle.verdicts.specs.Places.{entry_at, verdict_at}
use Rattle.causes.specs.Causes.{speaks_of}
use Rattle.meaning.specs.Kept.{kept_entry}
use Rattle.tables.specs.Sizes.{Sized, fit, refused_by, sizes_of}
use Rattle.cells.specs.Cells.{have_cells, is_table, is_row}
use Rattle.explaining.specs.declared.Explanation.{Explanation}
use Rattle.explaining.specs.declared.ExplainError.{ExplainError}
use Rattle.explaining.specs.declared.ExplainError.TheVariants.{Sizes, NoRow}
use Rattle.tables.specs.declared.SizeError.TheVariants.{TooLong, TooManyRows}

-- 01's number of a refusal and its place; or there is no such row; or the verdict, and of how many rows it speaks
pub data Answer : Type 0 where
  refused : (number place : ℕ) → Answer
  no_row : Answer
  explained : (verdict count : ℕ) → Answer

abbrev pub said_explanation : Result Explanation ExplainError → Answer
said_explanation (Ok explanation) = explained explanation.verdict explanation.causes
said_explanation (Err NoRow) = no_row
said_explanation (Err (Sizes (TooLong table))) = refused 1 table.0
said_explanation (Err (Sizes (TooManyRows table))) = refused 2 table.0

-- the places of the causes of row m of table n, from 1: by `places_causes` these rows are its `causes`
unfoldable pub cause_places : List (List ℕ) → (n m : ℕ) → List ℕ
cause_places texts n m =
    all_from (λ j. speaks_of (all_rows texts) (verdict_at texts (n - 1) m) (entry_at texts (n - 1) m) (kept_entry (all_rows texts) j)) 0 (length (all_rows texts))

-- 01: "1, 2 … any call with tables, before all else"
abbrev pub by_size : Sized → Answer → Answer
by_size fit answer = answer
by_size (refused_by number place) answer = refused number place

unfoldable pub answer_of : List (List ℕ) → (n m : ℕ) → Answer
answer_of texts n m =
    by_size (sizes_of texts) (cond (is_row texts n m) (explained (verdict_at texts (n - 1) m) (length (cause_places texts n m))) no_row)

-- what the lent places hold then: the causes' places, as far as there is room; 01: "A refusal writes nothing"
unfoldable pub places_after : List (List ℕ) → (n m : ℕ) → List ℕ → List ℕ
places_after texts n m places = cond (have_cells texts && is_row texts n m) (sets places 0 (cause_places texts n m)) places

pub record Examples : Type 0 where
  -- pid has one row, and no second
  pub no_second : answer_of ((65 ∷ 10 ∷ []) ∷ []) 1 2 ≡ no_row
  pub left : places_after ((65 ∷ 10 ∷ []) ∷ []) 1 2 (7 ∷ []) ≡ 7 ∷ []

pub examples : Examples
unfolding answer_of places_after have_cells sizes_of is_table is_row too_long too_many_rows first_table lines_of lead on_first
examples = record { no_second = refl; left = refl }
