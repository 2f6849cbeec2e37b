-- Laws of the questions of an index, one for each case.
use mathlib.Core.Path.{◌≡◌}
use mathlib.Core.List.{List}
use mathlib.Core.Option.{some, none}
use Prim.Native.Nat.{ℕ, ◌≤◌}
use native.Mathlib.Omega.{arith}
use lib.Dec.{eqb}
use lib.ListN.{length}
use Rattle.laws.proofs.Cases.{bool_cases}
use Rattle.verdicts.specs.Answer.{most_rows}
use Rattle.index_calls.specs.IndexCalls.{search_of}
use Rattle.std.specs.Prelude as rust
use Rattle.number_lists.specs.Lists.{list_in}
use Rattle.scripts.proofs.NumeralLaws.{most_is}
use Rattle.answers.specs.Answers.{unreadable}
use Rattle.replies.specs.Replies.{reply_of}
use Rattle.index_questions.specs.IndexReplies.{most_entries, compared_answer, search_in, search_reply, entries_lent}

-- a list, as it is read into an array of this length
module _ (texts : List (List ℕ)) (packet text : List ℕ) (room : ℕ) where
  pub search_list : (list : List ℕ) → room ≡ most_entries → some list ≡ list_in room text
      → reply_of compared_answer (search_of texts list packet) ≡ search_reply texts packet text
  unfolding search_reply search_in
  search_list list h e = rw (← h, ← e)

  pub search_unread : room ≡ most_entries → none ≡ list_in room text → unreadable ≡ search_reply texts packet text
  unfolding search_reply search_in
  search_unread h e = rw (← h, ← e)

pub entries_fit : (text : List ℕ) (n : ℕ) → entries_lent text ≡ rust.Some n → n ≤ most_entries
unfolding entries_lent
entries_fit text n e =
    bool_cases (eqb (length text) 0)
    (λ t. let h : rust.Some most_rows ≡ rust.Some n = rw t at e in
    let i : most_rows ≡ n = cc in omega arith)
    (λ f. most_is most_entries n _ (rw f at e))
