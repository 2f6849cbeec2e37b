-- By the two numbers.
use mathlib.Core.Path.{ap, ◌∙◌}
use Rattle.inside.proofs.InsideLaws.{by_pair_lem, by_no_pair}
use Rattle.inside.specs.Inside.{string_answer}
use Rattle.inside.specs.Inside.{string_reply, by_pair}
use Rattle.string_fields.specs.Text.{string_at}
use Rattle.inside.proofs.inner.ask_string.Goals as goal

pub returns : goal.returns
unfolding string_reply
returns c = c.say_string.ensures ∙ ap (string_answer _) c.string_at.ensures
    ∙ by_pair_lem (λ a b. string_answer b (string_at c.args.packet.now a b)) _ c.in-Some.field c.in-Some.is
    ∙ ap (by_pair (λ a b. string_answer b (string_at c.args.packet.now a b))) c.pair_of.ensures.0

pub returns-in_default : goal.returns-in_default
unfolding string_reply
returns-in_default c = c.unread.ensures ∙ by_no_pair (λ a b. string_answer b (string_at c.args.packet.now a b)) _ c.in_default.is
    ∙ ap (by_pair (λ a b. string_answer b (string_at c.args.packet.now a b))) c.pair_of.ensures.0
