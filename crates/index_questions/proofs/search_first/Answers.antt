-- Of the part that is read.
use mathlib.Core.Path.{ap, ◌∙◌}
use native.Mathlib.Omega.{arith}
use lib.ListN.{length-take}
use Rattle.replies.specs.Replies.{reply_of}
use Rattle.index_questions.specs.IndexReplies.{compared_answer}
use Rattle.index_questions.proofs.search_first.Goals as goal

pub slice_bounds-search-end : goal.slice_bounds-search-end
slice_bounds-search-end c = omega (arith, length-take c.args.n c.args.list.now)

pub returns : goal.returns
returns c = c.say_search.ensures ∙ ap (reply_of compared_answer) c.search.ensures
