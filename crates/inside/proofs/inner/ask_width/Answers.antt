-- By the two numbers.
use mathlib.Core.Path.{ap, ◌∙◌}
use Rattle.inside.proofs.InsideLaws.{by_pair_lem, by_no_pair}
use Rattle.inside.specs.Inside.{width_answer}
use Rattle.inside.specs.Inside.{width_reply, by_pair}
use Rattle.widths.specs.Width.{width_of}
use Rattle.inside.proofs.inner.ask_width.Goals as goal

pub returns : goal.returns
unfolding width_reply
returns c = c.say_width.ensures ∙ ap (width_answer) c.width_of.ensures ∙ by_pair_lem (λ a b. width_answer (width_of a b)) _ c.in-Some.codes c.in-Some.is
    ∙ ap (by_pair (λ a b. width_answer (width_of a b))) c.pair_of.ensures.0

pub returns-in_default : goal.returns-in_default
unfolding width_reply
returns-in_default c = c.unread.ensures ∙ by_no_pair (λ a b. width_answer (width_of a b)) _ c.in_default.is
    ∙ ap (by_pair (λ a b. width_answer (width_of a b))) c.pair_of.ensures.0
