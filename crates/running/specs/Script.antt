-- What a vector file means: line by line, how many questions of each kind are asked, how many answers differ,
-- and how many lines can't be read.
use Rattle.std.specs.Prelude.{◌≡◌, ℕ, true, false, cond, List, [], ◌∷◌, replicate, ◌==◌, nat_lt, refl}
use Rattle.std.proofs.Math.Option.{Option, some, none}
use Rattle.laws.specs.Text.{ascii, char}
use Rattle.laws.specs.Values.{tabulate}
use Rattle.numbers.specs.Number.{number_of, meaning, spelt, after, digit_on, digit_of, answer_of}
use Rattle.lines.specs.Lines.{Line, lines_of, lead, on_first}
use Rattle.lines.specs.Columns.{part_of, columns_of, columns_from}
use Rattle.name_bytes.specs.Names.{name_of, same_name, same_bytes}
use Rattle.string_fields.specs.Text.{part_at}
use Rattle.limit_state.specs.declared.state.LimitState.{LimitState}
use Rattle.scripts.specs.Words.{word_of, after_word, upto, word_place, setting_of, question_of, question_count}
use Rattle.escapes.specs.Escapes.{unescaped, where_room, before, before_byte, plain}
use Rattle.comparing.specs.declared.compare.Verdict.TheVariants.{Unread}
use Rattle.answers.specs.Answers.{saying, composed, integer_answer, words_answer}
use Rattle.spoken.specs.Spoken.{spoken, sign_text, spelled, decimal, places, cells_text}
use Rattle.comparing.specs.Compared.{verdict_of}
use Rattle.inside.specs.Inside.{number_answer}
use Rattle.questions.specs.declared.Judged.{Judged}
use Rattle.questions.specs.Questions.{judged, judged_bytes, judged_text, question_bytes, question_verdict, answer_to}
use Rattle.packet_questions.specs.PacketReplies.{reply_to}
use Rattle.tables.specs.Parts as tables
use Rattle.areas.specs.Memory.{Memory, memory, area_within, area_tables, cleared, first_cleared, all_cleared, packet_area, area_count}
use Rattle.settings.specs.Settings.{Settled, set_line, setting_count}
use Rattle.tallies.specs.declared.Tally.{Tally}
use Rattle.running.specs.declared.Standing as held
use Rattle.tallies.specs.Totals.{plus, tally_after, no_tally}

-- the tables and the packet, the limit state, the question that waits for its answer, and the tally so far
pub record Standing : Type 0 where
  pub space : List ℕ
  pub ends : List ℕ
  pub state : LimitState
  pub waits : Option (List ℕ)
  pub tally : Tally

abbrev pub standing : (space ends : List ℕ) → LimitState → Option (List ℕ) → Tally → Standing
standing space ends state waits tally = record { space = space; ends = ends; state = state; waits = waits; tally = tally }

-- the line under a question
unfoldable pub under_question : Standing → (question line : List ℕ) → Standing
under_question s question line =
    let m : Memory = memory s.space s.ends in
    let j : Judged = judged (question_of (word_of question)) (area_tables m) (area_within m packet_area) (after_word question) s.state line in
    record {
      space = s.space;
      ends = s.ends;
      state = j.state;
      waits = none;
      tally = tally_after s.tally (question_of (word_of question)) j.verdict;
    }

-- a line that sets something, by its word's place in the list of settings
unfoldable pub set_by : Standing → ℕ → List ℕ → Standing
set_by s k raw =
    let l : Settled = set_line k (memory s.space s.ends) s.state raw in
    record { space = l.space; ends = l.ends; state = l.state; waits = none; tally = cond l.readable s.tally (tally_after s.tally 0 Unread) }

unfoldable pub unread_line : Standing → Standing
unread_line s = record { space = s.space; ends = s.ends; state = s.state; waits = none; tally = tally_after s.tally 0 Unread }

-- a comment, a question, a setting, or none of them
unfoldable pub taken : Standing → List ℕ → Standing
taken s [] = s
taken s (b ∷ bs) =
    cond (b == (char "#")) s
    (cond (nat_lt (question_of (word_of (b ∷ bs))) question_count)
    (record { space = s.space; ends = s.ends; state = s.state; waits = some (b ∷ bs); tally = s.tally })
    (cond (nat_lt (setting_of (word_of (b ∷ bs))) setting_count) (set_by s (setting_of (word_of (b ∷ bs))) (after_word (b ∷ bs))) (unread_line s)))

-- under a question a line is its answer
unfoldable pub next_by : Standing → List ℕ → Option (List ℕ) → Standing
next_by s line none = taken s line
next_by s line (some question) = under_question s question line

unfoldable pub next_standing : Standing → List ℕ → Standing
next_standing s line = next_by s line s.waits

unfoldable pub after_lines : Standing → List Line → Standing
after_lines s [] = s
after_lines s (l ∷ ls) = after_lines (next_standing s l.bytes) ls

-- a question that no line follows can't be read
unfoldable pub closed_by : Tally → Option (List ℕ) → Tally
closed_by tally none = tally
closed_by tally (some question) = tally_after tally 0 Unread

unfoldable pub closing : Standing → Tally
closing s = closed_by s.tally s.waits

-- the state is fresh, no question waits, and nothing is counted
unfoldable pub first_standing : (space ends : List ℕ) → Standing
first_standing space ends =
    record {
      space = space;
      ends = ends;
      state = record { fresh = true; apid = 0; count = 0; run = 0; announced = 0 };
      waits = none;
      tally = no_tally;
    }

-- all tables and the packet are empty, whatever the space holds
unfoldable pub tally_of : (space text : List ℕ) → Tally
tally_of space text = closing (after_lines (first_standing space (all_cleared (replicate area_count 0))) (lines_of text))

-- a standing as it is held: the question that waits is a part of the text
unfoldable pub standing_in : (text space ends : List ℕ) → held.Standing → Standing
standing_in text space ends s =
    record {
      space = space;
      ends = ends;
      state = s.state;
      waits = cond s.waits (some (part_of text s.from s.to)) none;
      tally = s.tally;
    }

-- one without such a question
unfoldable pub stood : LimitState → Tally → held.Standing
stood state tally = record { state = state; waits = false; from = 0; to = 0; tally = tally }

-- a number, one whose answer is another, a word that isn't of the format, and a question that no line follows
pub record Examples : Type 0 where
  pub four : tally_of [] (ascii "# numbers\nnumber 08\n= no number\nnumber 7\n= 8\nnumbers 7\nnumber 9\n")
      ≡ record { asked = 0 ∷ 0 ∷ 0 ∷ 0 ∷ 0 ∷ 0 ∷ 2 ∷ replicate 7 0; differ = 1; unread = 2 }

pub examples : Examples
unfolding
    tally_of closing closed_by after_lines next_standing next_by taken under_question tally_after plus set_by unread_line first_standing no_tally
    all_cleared first_cleared cleared lines_of lead on_first word_of after_word upto word_place setting_of question_of columns_of columns_from name_of same_name same_bytes
    judged judged_bytes judged_text question_bytes where_room unescaped before before_byte plain question_verdict answer_to reply_to verdict_of
    number_answer integer_answer words_answer saying composed number_of meaning spelt after digit_on digit_of answer_of
    spoken sign_text spelled decimal places part_at cells_text area_tables area_within tables.tables_in tables.table_in tabulate
examples = record { four = refl }
