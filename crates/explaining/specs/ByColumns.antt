-- What is answered of a row's cell by what is kept of the rows.
use Rattle.std.specs.Prelude.{ℕ, ◌≡◌, List, length, get_or, Option, Some, None, Result}
use Rattle.std.proofs.lemmas.List.Edits.{sets}
use Rattle.laws.specs.Prefix.{all_from}
use Rattle.judged.specs.Passes.{JudgedInto}
use Rattle.pointing.specs.Pointing.{points_to}
use Rattle.explaining.specs.Explaining.{Answer, no_row, explained, said_explanation}
use Rattle.explaining.specs.declared.Explanation.{Explanation}
use Rattle.explaining.specs.declared.ExplainError.{ExplainError}

-- the rows that the row at a place points to
abbrev pub pointed : (halves bytes cells : List ℕ) → (n i : ℕ) → List ℕ
pointed halves bytes cells n i = all_from (points_to halves bytes cells i) 0 n

abbrev pub answered_at : (halves bytes cells : List ℕ) → (n : ℕ) → Option ℕ → Answer
answered_at halves bytes cells n (Some i) = explained (get_or cells i 0) (length (pointed halves bytes cells n i))
answered_at halves bytes cells n None = no_row

abbrev pub places_at : (halves bytes cells : List ℕ) → (n : ℕ) → Option ℕ → List ℕ → List ℕ
places_at halves bytes cells n (Some i) places = sets places 0 (pointed halves bytes cells n i)
places_at halves bytes cells n None places = places

pub record ExplainsBy (halves bytes cells cells' : List ℕ) (n : ℕ) (cell : Option ℕ) (places places' : List ℕ) (r : Result Explanation ExplainError) : Type 0 where
  pub judged : JudgedInto halves bytes cells cells' n
  pub answers : said_explanation r ≡ answered_at halves bytes cells' n cell
  pub leaves : places' ≡ places_at halves bytes cells' n cell places
