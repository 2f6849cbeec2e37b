-- By whether the list can be read.
use mathlib.Core.Path.{◌∙◌}
use native.Mathlib.Omega.{arith}
use Rattle.escapes.specs.Escapes.{read_in}
use Rattle.index_questions.proofs.IndexReplyLaws.{search_list, search_unread}
use borrow.Author.Rules.{rules}
use Rattle.index_questions.proofs.search_read.Goals as goal

pub search_first-requires : goal.search_first-requires
search_first-requires c = let fits = rw c.in-Some.is at c.read_list.ensures.no_more_than in
    omega (arith, fits)

pub returns-in-Some : goal.returns-in-Some
unfolding read_in
returns-in-Some c = c.search_first.ensures ∙ search_list _ _ _ _ _ (search rules) (rw c.in-Some.is at c.read_list.ensures.out_after)

pub returns-in-None : goal.returns-in-None
unfolding read_in
returns-in-None c = c.unread.ensures ∙ search_unread _ _ _ _ (search rules) (rw c.in-None.is at c.read_list.ensures.out_after)
