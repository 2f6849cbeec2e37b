-- Laws of a question's text and of what is judged.
use mathlib.Core.Path.{◌≡◌}
use mathlib.Core.List.{List, [], ◌∷◌, ◌++◌}
use mathlib.Core.Option.{Option, some, none}
use Prim.Native.Nat.{ℕ}
use borrow.Author.Tests.{eq-eqb, ne_eqb}
use Rattle.limit_state.specs.declared.state.LimitState.{LimitState}
use Rattle.escapes.specs.Escapes.{unescaped, row_bytes, where_room}
use Rattle.comparing.specs.declared.compare.Verdict.{Verdict}
use Rattle.comparing.specs.declared.compare.Verdict.TheVariants.{Unread}
use Rattle.questions.specs.declared.Judged.{Judged}
use Rattle.questions.specs.Questions.{question_bytes, judged_text, judged_bytes, judged}

-- a text, as it is read into a buffer of this length
module _ (room k : ℕ) (raw : List ℕ) {o : Option (List ℕ)} where
  pub bytes_row : o ≡ where_room room (raw ++ 10 ∷ []) (row_bytes raw) → room ≡ 65537 → k ≡ 1 → o ≡ question_bytes k raw
  unfolding question_bytes
  bytes_row p e h = rw (eq-eqb k 1 h) (rw e at p)

  pub bytes_other : o ≡ where_room room raw (unescaped raw) → room ≡ 65537 → (k ≡ 1 → ⊥) → o ≡ question_bytes k raw
  unfolding question_bytes
  bytes_other p e n = rw (ne_eqb k 1 n) (rw e at p)

pub judged_parts : {v v' : Verdict} {s s' : LimitState} → v ≡ v' → s ≡ s'
    → ◌≡◌ {A = Judged} (record { verdict = v; state = s }) (record { verdict = v'; state = s' })
judged_parts p q = λ i. record { verdict = p i; state = q i }

module _ (k : ℕ) (texts : List (List ℕ)) (packet raw : List ℕ) (s : LimitState) (line : List ℕ) where
  pub judged_some : (w : List ℕ) → question_bytes k raw ≡ some w → judged_text k texts packet s line w ≡ judged k texts packet raw s line
  unfolding judged judged_bytes
  judged_some w e = rw e

  pub judged_none : question_bytes k raw ≡ none → record { verdict = Unread; state = s } ≡ judged k texts packet raw s line
  unfolding judged judged_bytes
  judged_none e = rw e
