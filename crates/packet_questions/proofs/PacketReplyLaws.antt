-- Laws of the questions that lend no cells, one for each case.
use mathlib.Core.Path.{◌≡◌, sym, ◌∙◌}
use mathlib.Core.List.{List}
use Prim.Native.Nat.{ℕ}
use lib.ListN.{length}
use borrow.Author.Tests.{eq-eqb, ne_eqb}
use Rattle.lines.specs.Columns.{columns_of, column_at}
use Rattle.calls.specs.Calls.{identify_of}
use Rattle.std.specs.Prelude as rust
use Rattle.scripts.specs.Numerals.{natural_in}
use Rattle.answers.specs.declared.answer.Answer.{Answer}
use Rattle.answers.specs.Answers.{unreadable}
use Rattle.replies.specs.Replies.{reply_of, identity_answer}
use Rattle.packet_questions.specs.PacketReplies.{occurrence_in, by_natural, identify_reply}

module _ (text : List ℕ) (n : ℕ) (e : n ≡ length (columns_of text)) where
  pub occurrence_none : n ≡ 1 → rust.Some 0 ≡ occurrence_in text
  unfolding occurrence_in
  occurrence_none h = rw (eq-eqb (length (columns_of text)) 1 (sym e ∙ h))

  pub occurrence_named : (n ≡ 1 → ⊥) → n ≡ 2 → natural_in (column_at (columns_of text) 1) ≡ occurrence_in text
  unfolding occurrence_in
  occurrence_named m h = rw (ne_eqb (length (columns_of text)) 1 (λ p. m (e ∙ p)), eq-eqb (length (columns_of text)) 2 (sym e ∙ h))

  pub occurrence_unread : (n ≡ 1 → ⊥) → (n ≡ 2 → ⊥) → rust.None ≡ occurrence_in text
  unfolding occurrence_in
  occurrence_unread m h = rw (ne_eqb (length (columns_of text)) 1 (λ p. m (e ∙ p)), ne_eqb (length (columns_of text)) 2 (λ p. h (e ∙ p)))

pub by_natural_lem : (f : ℕ → Answer) (o : rust.Option ℕ) (n : ℕ) → o ≡ rust.Some n → f n ≡ by_natural f o
unfolding by_natural
by_natural_lem f o n e = rw e

pub by_unread : (f : ℕ → Answer) (o : rust.Option ℕ) → o ≡ rust.None → unreadable ≡ by_natural f o
unfolding by_natural
by_unread f o e = rw e

module _ (texts : List (List ℕ)) (packet text : List ℕ) where
  pub identify_asked : length text ≡ 0 → reply_of identity_answer (identify_of texts packet) ≡ identify_reply texts packet text
  unfolding identify_reply
  identify_asked h = rw (eq-eqb (length text) 0 h)

  pub identify_unread : (length text ≡ 0 → ⊥) → unreadable ≡ identify_reply texts packet text
  unfolding identify_reply
  identify_unread h = rw (ne_eqb (length text) 0 h)
