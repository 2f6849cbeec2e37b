-- Laws of a vector file's lines.
use Rattle.std.proofs.Common.{◌≡◌, ℕ, ◌<◌, ◌≤◌, true, false, cond, List, [], ◌∷◌, length, get_or, drop, replicate, sym, refl, ap, ◌∙◌, arith, le-ltb, lt-ltb, eq-eqb, ne_eqb}
use mathlib.Core.Option.{some, none}
use Rattle.lines.specs.Lines.{lines_of, next_line}
use Rattle.lines.specs.Columns.{part_of}
use Rattle.lines.specs.declared.walk.NextLine.{NextLine}
use Rattle.lines.proofs.LineLaws.{lines_next, lines_none}
use Rattle.scripts.specs.Words.{word_of, after_word, setting_of, question_of, question_count}
use Rattle.running.specs.Script.{Standing, next_standing, next_by, taken, under_question, set_by, unread_line, after_lines, standing_in}
use Rattle.running.specs.declared.Standing as held
use Rattle.tallies.specs.declared.Tally.{Tally}
use Rattle.questions.specs.declared.Judged.{Judged}
use Rattle.comparing.specs.declared.compare.Verdict.TheVariants.{Unread}
use Rattle.limit_state.specs.declared.state.LimitState.{LimitState}
use Rattle.laws.proofs.Cases.{bool_cases, false≢true}
use Rattle.areas.specs.Memory.{area_within, area_tables, packet_area}
use Rattle.settings.specs.Settings.{Settled, set_line, setting_count}
use Rattle.questions.specs.Questions.{judged}
use Rattle.running.specs.Script.{stood, first_standing}
use Rattle.tallies.specs.Totals.{tally_after, no_tally}

module _ (s : Standing) (text : List ℕ) (from : ℕ) where
  pub lines_more : (n : NextLine) → n ≡ next_line text from → from < length text
      → after_lines s (lines_of (drop from text)) ≡ after_lines (next_standing s (part_of text from n.end)) (lines_of (drop n.next text))
  unfolding after_lines
  lines_more n e h = rw (lines_next text from n e h)

  pub lines_end : length text ≤ from → after_lines s (lines_of (drop from text)) ≡ s
  unfolding after_lines
  lines_end h = rw (lines_none text from h)

module _ (s : Standing) (line : List ℕ) where
  pub next_answer : (question : List ℕ) → s.waits ≡ some question → under_question s question line ≡ next_standing s line
  unfolding next_standing next_by
  next_answer question e = rw e

  pub next_taken : s.waits ≡ none → taken s line ≡ next_standing s line
  unfolding next_standing next_by
  next_taken e = rw e

module _ (s : Standing) where
  pub taken_empty : (line : List ℕ) → length line ≡ 0 → s ≡ taken s line
  unfolding taken
  taken_empty [] h = refl
  taken_empty (b ∷ bs) h = absurd (omega arith)

  pub taken_comment : (line : List ℕ) → 0 < length line → get_or line 0 0 ≡ 35 → s ≡ taken s line
  unfolding taken
  taken_comment [] h e = absurd (omega arith)
  taken_comment (b ∷ bs) h e = rw (eq-eqb b 35 e)

  pub taken_question : (line : List ℕ) → 0 < length line → (get_or line 0 0 ≡ 35 → ⊥) → question_of (word_of line) < question_count
      → record { space = s.space; ends = s.ends; state = s.state; waits = some line; tally = s.tally } ≡ taken s line
  unfolding taken
  taken_question [] h n q = absurd (omega arith)
  taken_question (b ∷ bs) h n q = rw (ne_eqb b 35 n, lt-ltb (question_of (word_of (b ∷ bs))) question_count q)

  pub taken_setting : (line : List ℕ) → 0 < length line → (get_or line 0 0 ≡ 35 → ⊥) → question_count ≤ question_of (word_of line)
      → setting_of (word_of line) < setting_count
      → set_by s (setting_of (word_of line)) (after_word line) ≡ taken s line
  unfolding taken
  taken_setting [] h n q k = absurd (omega arith)
  taken_setting (b ∷ bs) h n q k =
      rw (ne_eqb b 35 n, le-ltb (question_of (word_of (b ∷ bs))) question_count q, lt-ltb (setting_of (word_of (b ∷ bs))) setting_count k)

  pub taken_unread : (line : List ℕ) → 0 < length line → (get_or line 0 0 ≡ 35 → ⊥) → question_count ≤ question_of (word_of line)
      → setting_count ≤ setting_of (word_of line)
      → unread_line s ≡ taken s line
  unfolding taken
  taken_unread [] h n q k = absurd (omega arith)
  taken_unread (b ∷ bs) h n q k =
      rw (ne_eqb b 35 n, le-ltb (question_of (word_of (b ∷ bs))) question_count q, le-ltb (setting_of (word_of (b ∷ bs))) setting_count k)

-- A standing as it is held

module _ (r : held.Standing) (state : LimitState) (tally : Tally) (e : r ≡ stood state tally) where
  pub stood_self : r ≡ stood r.state r.tally
  unfolding stood
  stood_self = rw e

  pub no_wait : r.waits ≡ true → ⊥
  unfolding stood
  no_wait w = false≢true (sym (ap (λ (s : held.Standing). s.waits) e) ∙ w)

  pub line_stood : (space ends line : List ℕ)
      → ◌≡◌ {A = Standing} (record { space = space; ends = ends; state = r.state; waits = cond r.waits (some line) none; tally = r.tally })
      (record { space = space; ends = ends; state = state; waits = none; tally = tally })
  unfolding stood
  line_stood space ends line = rw e

module _ (space ends : List ℕ) (state : LimitState) (tally : Tally) (r : held.Standing) where
  -- the standing before a line, and after one without a question
  abbrev before : Standing
  before = record { space = space; ends = ends; state = state; waits = none; tally = tally }

  abbrev after : Standing
  after = record { space = space; ends = ends; state = r.state; waits = none; tally = r.tally }

  pub answered_is : (question line : List ℕ) (k : ℕ) (j : Judged) → k ≡ question_of (word_of question)
      → j ≡ judged k (area_tables (record { space = space; ends = ends })) (area_within (record { space = space; ends = ends }) packet_area)
      (after_word question) state line
      → r ≡ stood j.state (tally_after tally k j.verdict) → after ≡ under_question before question line
  unfolding under_question stood
  answered_is question line k j ek ej er = rw (er, ej, ek)

  module _ (k : ℕ) (raw : List ℕ) (l : Settled) (el : l ≡ set_line k (record { space = space; ends = ends }) state raw) where
    pub set_read : l.readable ≡ true → r ≡ stood l.state tally
        → record { space = l.space; ends = l.ends; state = r.state; waits = none; tally = r.tally } ≡ set_by before k raw
    unfolding set_by stood
    set_read t er = rw (er, ← el, t)

    pub set_unread : l.readable ≡ false → r ≡ stood l.state (tally_after tally 0 Unread)
        → record { space = l.space; ends = l.ends; state = r.state; waits = none; tally = r.tally } ≡ set_by before k raw
    unfolding set_by stood
    set_unread t er = rw (er, ← el, t)

pub first_standing_lem : (text space ends : List ℕ) (r : held.Standing)
    → r ≡ stood (record { fresh = true; apid = 0; count = 0; run = 0; announced = 0 })
    (record { asked = replicate question_count 0; differ = 0; unread = 0 })
    → standing_in text space ends r ≡ first_standing space ends
unfolding standing_in stood first_standing no_tally
first_standing_lem text space ends r e = rw e

module _ (text space ends : List ℕ) (s r : held.Standing) where
  pub next_answered : (line : List ℕ) → s.waits ≡ true → r ≡ stood r.state r.tally
      → record { space = space; ends = ends; state = r.state; waits = none; tally = r.tally }
      ≡ under_question (record { space = space; ends = ends; state = s.state; waits = none; tally = s.tally }) (part_of text s.from s.to) line
      → standing_in text space ends r ≡ next_standing (standing_in text space ends s) line
  unfolding standing_in next_standing next_by under_question stood
  next_answered line w e p = rw w (rw (ap (λ (x : held.Standing). x.waits) e) p)

  pub next_line_lem : (space' ends' : List ℕ) (from to : ℕ) → s.waits ≡ false → (r.waits ≡ true → (r.from ≡ from) × (r.to ≡ to))
      → record { space = space'; ends = ends'; state = r.state; waits = cond r.waits (some (part_of text from to)) none; tally = r.tally }
      ≡ taken (record { space = space; ends = ends; state = s.state; waits = none; tally = s.tally }) (part_of text from to)
      → standing_in text space' ends' r ≡ next_standing (standing_in text space ends s) (part_of text from to)
  unfolding standing_in next_standing next_by
  next_line_lem space' ends' from to w f p =
      rw w
      (bool_cases r.waits
      (λ t. rw ((f t).0, (f t).1) p)
      (λ t. rw t (rw t at p)))
