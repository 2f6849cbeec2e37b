-- A line under a question, compared with the answer.
use Rattle.std.specs.Prelude.{◌≡◌, ℕ, cond, List, [], ◌++◌, refl}
use Rattle.laws.specs.Text.{ascii}
use Rattle.name_bytes.specs.Names.{same_bytes}
use Rattle.string_fields.specs.Text.{part_at}
use Rattle.answers.specs.declared.answer.Answer.{Answer}
use Rattle.comparing.specs.declared.compare.Verdict.{Verdict}
use Rattle.comparing.specs.declared.compare.Verdict.TheVariants.{Unread, Same, Differs}
use Rattle.answers.specs.Answers.{composed, saying, refusing, unreadable}
use Rattle.spoken.specs.Spoken.{spoken, sign_text, spelled, decimal, places, cells_text}

-- whether a line is `= ` and the answer, letter by letter
unfoldable pub verdict_of : Answer → (txp cells positions line : List ℕ) → Verdict
verdict_of a txp cells positions line =
    cond a.readable (cond (same_bytes (ascii "= " ++ spoken a txp cells positions) line) Same Differs) Unread

pub record Examples : Type 0 where
  pub same : verdict_of (refusing 28 13) [] [] [] (ascii "= refused 28 at 13") ≡ Same
  pub longer : verdict_of (refusing 28 13) [] [] [] (ascii "= refused 28 at 130") ≡ Differs
  pub unread : verdict_of unreadable [] [] [] (ascii "= refused 28 at 13") ≡ Unread

pub examples : Examples
unfolding verdict_of unreadable refusing saying composed spoken sign_text spelled decimal places part_at cells_text same_bytes
examples = record { same = refl; longer = refl; unread = refl }
