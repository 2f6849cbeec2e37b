-- A question's text, its answer, and whether the line under it is that answer.
use Rattle.std.specs.Prelude.{ℕ, ◌≡◌, refl, cond, List, [], ◌∷◌, ◌++◌, eqb, ltb, get_or}
use Rattle.std.proofs.Math.Option.{Option, some, none}
use Rattle.laws.specs.Text.{ascii}
use Rattle.limit_state.specs.declared.state.LimitState.{LimitState}
use Rattle.accepting.specs.Accepted.{state_after}
use Rattle.calls.specs.Calls.{limit_step_of}
use Rattle.escapes.specs.Escapes.{unescaped, row_bytes, is_open, ended_row, where_room, before, plain}
use Rattle.comparing.specs.declared.compare.Verdict.{Verdict}
use Rattle.comparing.specs.declared.compare.Verdict.TheVariants.{Unread}
use Rattle.comparing.specs.Compared.{verdict_of}
use Rattle.replies.specs.Replies.{reply_of, state_answer}
use Rattle.cell_questions.specs.CellReplies.{import_reply, row_reply}
use Rattle.answers.specs.declared.answer.Answer.{Answer}
use Rattle.packet_questions.specs.PacketReplies.{reply_to}
use Rattle.index_questions.specs.IndexReplies.{index_reply_to}
use Rattle.questions.specs.declared.Judged.{Judged}

-- a limit step, after which the state is the new one
unfoldable pub step_judged : List (List ℕ) → (packet text : List ℕ) → LimitState → (line : List ℕ) → Judged
step_judged texts packet text s line =
    record {
      verdict = verdict_of (reply_of state_answer (limit_step_of texts packet text s)) (get_or texts 7 []) [] [] line;
      state = state_after s (limit_step_of texts packet text s);
    }

-- the questions that lend no cells; those of an index come after the others
unfoldable pub answer_to : ℕ → List (List ℕ) → (packet text : List ℕ) → Answer
answer_to k texts packet text = cond (ltb k 12) (reply_to k texts packet text) (index_reply_to k texts packet text)

unfoldable pub question_verdict : ℕ → List (List ℕ) → (packet text line : List ℕ) → Verdict
question_verdict k texts packet text line =
    cond (eqb k 0) (import_reply texts text line)
    (cond (eqb k 1) (row_reply text line) (verdict_of (answer_to k texts packet text) (get_or texts 7 []) [] [] line))

unfoldable pub judged_text : ℕ → List (List ℕ) → (packet : List ℕ) → LimitState → (line text : List ℕ) → Judged
judged_text k texts packet s line text =
    cond (eqb k 5) (step_judged texts packet text s line) (record { verdict = question_verdict k texts packet text line; state = s })

-- a question's text is read as a text, and that of `row` as a row, as far as a buffer of 65,537 bytes holds them
unfoldable pub question_bytes : ℕ → List ℕ → Option (List ℕ)
question_bytes k raw = cond (eqb k 1) (where_room 65537 (raw ++ 10 ∷ []) (row_bytes raw)) (where_room 65537 raw (unescaped raw))

unfoldable pub judged_bytes : ℕ → List (List ℕ) → (packet : List ℕ) → LimitState → (line : List ℕ) → Option (List ℕ) → Judged
judged_bytes k texts packet s line none = record { verdict = Unread; state = s }
judged_bytes k texts packet s line (some text) = judged_text k texts packet s line text

unfoldable pub judged : ℕ → List (List ℕ) → (packet raw : List ℕ) → LimitState → (line : List ℕ) → Judged
judged k texts packet raw s line = judged_bytes k texts packet s line (question_bytes k raw)

-- the text of a row question and of another, and a question with half an escape
pub record Examples (s : LimitState) (line : List ℕ) : Type 0 where
  pub row : question_bytes 1 (ascii "A|") ≡ some (65 ∷ 9 ∷ 10 ∷ [])
  pub other : question_bytes 2 (ascii "A|") ≡ some (65 ∷ 9 ∷ [])
  pub unread : judged 2 [] [] (ascii "\\7") s line ≡ record { verdict = Unread; state = s }

pub examples : (s : LimitState) (line : List ℕ) → Examples s line
unfolding judged judged_bytes question_bytes where_room row_bytes is_open ended_row unescaped before plain
examples s line = record { row = refl; other = refl; unread = refl }
