-- The questions that lend no cells, and their answers.
use Rattle.std.specs.Prelude.{ℕ, ◌≡◌, refl, cond, List, [], eqb, pos, length}
use Rattle.laws.specs.Text.{ascii}
use Rattle.numbers.specs.Number.{number_of, answer_of, meaning, spelt, after, digit_on, digit_of}
use Rattle.lines.specs.Columns.{columns_of, columns_from, column_at}
use Rattle.calls.specs.Calls.{identify_of, extract_of, engineer_of}
use Rattle.std.specs.Prelude as rust
use Rattle.scripts.specs.Numerals.{natural_in, natural_of}
use Rattle.answers.specs.declared.answer.Answer.{Answer}
use Rattle.answers.specs.Answers.{integer_answer, unreadable}
use Rattle.inside.specs.Inside.{number_answer, width_reply, unsigned_reply, signed_reply, string_reply, line_reply}
use Rattle.replies.specs.Replies.{reply_of, identity_answer, reading_answer, engineered_answer}

-- the occurrence after a name, 0 where none is named
unfoldable pub occurrence_in : List ℕ → rust.Option ℕ
occurrence_in text =
    cond (eqb (length (columns_of text)) 1) (rust.Some 0)
    (cond (eqb (length (columns_of text)) 2) (natural_in (column_at (columns_of text) 1)) rust.None)

unfoldable pub by_natural : (ℕ → Answer) → rust.Option ℕ → Answer
by_natural answer (rust.Some n) = answer n
by_natural answer rust.None = unreadable

unfoldable pub identify_reply : List (List ℕ) → (packet text : List ℕ) → Answer
identify_reply texts packet text = cond (eqb (length text) 0) (reply_of identity_answer (identify_of texts packet)) unreadable

unfoldable pub extract_reply : List (List ℕ) → (packet text : List ℕ) → Answer
extract_reply texts packet text =
    by_natural (λ k. reply_of reading_answer (extract_of texts packet (column_at (columns_of text) 0) k)) (occurrence_in text)

unfoldable pub engineer_reply : List (List ℕ) → (packet text : List ℕ) → Answer
engineer_reply texts packet text =
    by_natural (λ k. reply_of engineered_answer (engineer_of texts packet (column_at (columns_of text) 0) k)) (occurrence_in text)

-- the questions that lend no cells, by their place in the list of questions
unfoldable pub reply_to : ℕ → List (List ℕ) → (packet text : List ℕ) → Answer
reply_to k texts packet text =
    cond (eqb k 2) (identify_reply texts packet text)
    (cond (eqb k 3) (extract_reply texts packet text)
    (cond (eqb k 4) (engineer_reply texts packet text)
    (cond (eqb k 6) (number_answer (answer_of (number_of text)))
    (cond (eqb k 7) (width_reply text)
    (cond (eqb k 8) (unsigned_reply packet text)
    (cond (eqb k 9) (signed_reply packet text)
    (cond (eqb k 10) (string_reply packet text) (line_reply text))))))))

pub record Examples : Type 0 where
  pub first : occurrence_in (ascii "T1") ≡ rust.Some 0
  pub third : occurrence_in (ascii "T1\t2") ≡ rust.Some 2
  pub no_text : identify_reply [] [] (ascii "T1") ≡ unreadable
  pub number : reply_to 6 [] [] (ascii "0767") ≡ integer_answer (pos 503)

pub examples : Examples
unfolding
    occurrence_in identify_reply reply_to number_answer natural_in natural_of columns_of columns_from
    number_of answer_of meaning spelt after digit_on digit_of
examples = record { first = refl; third = refl; no_text = refl; number = refl }
