-- Its number and place.
use Rattle.replies.proofs.packet_replies.refused_question.Goals as goal

pub returns : goal.returns
returns c = simp (c.refused.ensures, c.place_of.ensures, c.number_of.ensures)
