-- The questions of an index, and their answers.
use Rattle.std.specs.Prelude.{ℕ, ◌+◌, ◌*◌, ◌≡◌, refl, false, cond, List, [], ◌∷◌, eqb, ltb, length, get_or, take, replicate}
use Rattle.std.proofs.Math.Option.{Option, some, none}
use Rattle.laws.specs.Text.{ascii}
use Rattle.laws.specs.Values.{tabulate}
use Rattle.numbers.specs.Number.{number_of, answer_of, meaning, spelt, after, digit_on, digit_of}
use Rattle.lines.specs.Columns.{columns_of, columns_from}
use Rattle.outcomes.specs.Outcome.{Outcome, refused, answer}
use Rattle.verdicts.specs.Answer.{most_rows}
use Rattle.identification.specs.Identification.{Identity}
use Rattle.searching.specs.Search.{Compared}
use Rattle.index_calls.specs.IndexCalls.{search_of, made_of, count_of, list_after}
use Rattle.std.specs.Prelude as rust
use Rattle.scripts.specs.Numerals.{natural_in, natural_of, at_most}
use Rattle.escapes.specs.Escapes.{before}
use Rattle.number_lists.specs.Lists.{list_in, where_entries, row_numbers_in, before_number}
use Rattle.answers.specs.declared.answer.Answer.{Answer}
use Rattle.answers.specs.Answers.{saying, unreadable}
use Rattle.replies.specs.Replies.{reply_of}
use Rattle.packet_questions.specs.PacketReplies.{by_natural}

-- the most entries that a list has in a question
abbrev pub most_entries : ℕ
most_entries = 1100

abbrev three_numbers : (a b c : ℕ) → List ℕ
three_numbers a b c = a ∷ b ∷ c ∷ 0 ∷ 0 ∷ 0 ∷ 0 ∷ []

-- 02, P4: "The answer, 25 included, … tells how many entries were compared"
unfoldable pub found_answer : (compared : ℕ) → Outcome Identity → Answer
found_answer compared (refused n place) = saying (ascii "refused # at #, compared #") false (three_numbers n place compared)
found_answer compared (answer id) = saying (ascii "row #, SPID #, compared #") false (three_numbers id.row id.spid compared)

unfoldable pub compared_answer : Compared → Answer
compared_answer c = found_answer c.compared c.identity

-- by a list that could be read
unfoldable pub search_in : List (List ℕ) → (packet : List ℕ) → Option (List ℕ) → Answer
search_in texts packet (some list) = reply_of compared_answer (search_of texts list packet)
search_in texts packet none = unreadable

-- search ROW|ROW|…
unfoldable pub search_reply : List (List ℕ) → (packet text : List ℕ) → Answer
search_reply texts packet text = search_in texts packet (list_in most_entries text)

-- index ROOM: how many places are lent, as many as a table has rows where it isn't said
unfoldable pub entries_lent : (text : List ℕ) → rust.Option ℕ
entries_lent text = cond (eqb (length text) 0) (rust.Some most_rows) (at_most most_entries (natural_in text))

-- of so many rows at most six are told
unfoldable pub told_of : (count : ℕ) → ℕ
told_of count = cond (ltb count 6) count 6

-- how many rows the index has, and the first six of them
unfoldable pub index_answer : (rows : List ℕ) → (count : ℕ) → Answer
index_answer rows count =
    saying (take (7 + 2 * told_of count) (ascii "# rows: # # # # # #")) false (count ∷ tabulate (λ k. get_or rows k 0) 0 6)

-- what is left in a lent list
unfoldable pub index_left : List (List ℕ) → (rows : List ℕ) → Answer
index_left texts rows = reply_of (index_answer (list_after rows (made_of texts (length rows)))) (count_of (made_of texts (length rows)))

-- in the first of these places
unfoldable pub index_in : List (List ℕ) → (rows text : List ℕ) → Answer
index_in texts rows text = by_natural (λ room. index_left texts (take room rows)) (entries_lent text)

unfoldable pub index_reply : List (List ℕ) → (text : List ℕ) → Answer
index_reply texts text = index_in texts (replicate most_entries 0) text

-- the questions of an index, by their place in the list of questions
unfoldable pub index_reply_to : ℕ → List (List ℕ) → (packet text : List ℕ) → Answer
index_reply_to k texts packet text = cond (eqb k 12) (search_reply texts packet text) (index_reply texts text)

pub record Examples : Type 0 where
  pub three_rows : index_answer (2 ∷ 4 ∷ 1 ∷ 0 ∷ []) 3 ≡ saying (ascii "# rows: # # #") false (3 ∷ 2 ∷ 4 ∷ 1 ∷ 0 ∷ 0 ∷ 0 ∷ [])
  pub no_rows : index_answer [] 0 ≡ saying (ascii "# rows:") false (0 ∷ 0 ∷ 0 ∷ 0 ∷ 0 ∷ 0 ∷ 0 ∷ [])
  pub not_found : found_answer 3 (refused 25 0) ≡ saying (ascii "refused # at #, compared #") false (three_numbers 25 0 3)
  pub all : entries_lent [] ≡ rust.Some most_rows
  pub few : entries_lent (ascii "2") ≡ rust.Some 2
  pub too_many : entries_lent (ascii "1101") ≡ rust.None
  pub no_list : search_reply [] [] (ascii "2\tx") ≡ unreadable

pub examples : Examples
unfolding
    index_answer told_of found_answer entries_lent search_reply search_in tabulate list_in where_entries row_numbers_in before_number before columns_of columns_from
    at_most natural_in natural_of number_of answer_of meaning spelt after digit_on digit_of
examples =
    record { three_rows = refl; no_rows = refl; not_found = refl; all = refl; few = refl; too_many = refl; no_list = refl }
