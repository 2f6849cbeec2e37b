-- What an import answers, and the cells and positions after judging.
use Rattle.std.specs.Prelude.{ℕ, ◌≤◌, ◌<◌, ◌≡◌, cond, List, ltb, length, take, Result, Ok, Err}
use Rattle.std.proofs.lemmas.List.Edits.{sets}
use Rattle.outcomes.specs.Refusals.{refusal_number, refusal_place}
use Rattle.outcomes.specs.declared.Refusal.{Refusal}
use Rattle.outcomes.specs.declared.Refusal.TheVariants.{TooFewCells}
use Rattle.verdicts.specs.Answer as answer
use Rattle.verdicts.specs.Entries.{all_rows}
use Rattle.verdicts.specs.Verdicts.{verdicts}
use Rattle.judged.specs.Passes.{JudgedInto}
use Rattle.positions.specs.Kept.{PositionsBy}
use Rattle.import.specs.declared.Imported.{Imported}

-- the cells hold the verdicts of all rows where there are enough of them, and else what they held
unfoldable pub judged_cells : List (List ℕ) → List ℕ → List ℕ
judged_cells texts cells = cond (ltb (length cells) (length (all_rows texts))) cells (sets cells 0 (verdicts texts))

-- 01: the number of a refusal and its place; the counts of rows and of good rows
unfoldable pub said_imported : Result Imported Refusal → answer.Imported
said_imported (Ok counts) = answer.taken counts.rows counts.good
said_imported (Err refusal) = answer.refused (refusal_number refusal) (refusal_place refusal)

-- of rows that are kept
pub record DoneBy (texts : List (List ℕ)) (halves bytes before after before' after' : List ℕ) (n rows good : ℕ) : Type 0 where
  pub all : rows ≡ n
  pub enough : n ≤ length before
  pub enough' : n ≤ length before'
  pub judged : JudgedInto halves bytes before after n
  pub placed : PositionsBy texts halves bytes before' after' n
  pub zeros : good ≡ answer.zeros (take n after)

-- by the cells and the positions before and after
unfoldable pub AnswersBy : List (List ℕ) → (halves bytes before after before' after' : List ℕ) → (n : ℕ) → Result Imported Refusal → Type 0
AnswersBy texts halves bytes before after before' after' n (Ok counts) = DoneBy texts halves bytes before after before' after' n counts.rows counts.good
AnswersBy texts halves bytes before after before' after' n (Err refusal) =
    (refusal ≡ TooFewCells) × (answer.room_in before before' < n) × (after ≡ before) × (after' ≡ before')
