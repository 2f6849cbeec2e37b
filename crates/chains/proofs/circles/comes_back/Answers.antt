-- By what the course tells.
use Rattle.chains.specs.Courses.{is_return}
use Rattle.chains.proofs.EndLaws.{told_by}
use Rattle.chains.proofs.circles.comes_back.Goals as goal

pub mark_ended-requires : goal.mark_ended-requires
mark_ended-requires c = (c.requires, c.follow.ensures.ends c.in-Ends.is)

pub returns-in-Ends : goal.returns-in-Ends
unfolding is_return
returns-in-Ends c = record { value = told_by _ _ _ c.follow.ensures c.in-Ends.is; known_ends = c.mark_ended.ensures }

pub returns-in-Returns : goal.returns-in-Returns
unfolding is_return
returns-in-Returns c = record { value = told_by _ _ _ c.follow.ensures c.in-Returns.is; known_ends = c.requires }

pub returns-in-Rounds : goal.returns-in-Rounds
unfolding is_return
returns-in-Rounds c = record { value = told_by _ _ _ c.follow.ensures c.in-Rounds.is; known_ends = c.requires }
