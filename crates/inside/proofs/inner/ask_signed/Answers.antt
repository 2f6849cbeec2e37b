-- By the two numbers.
use mathlib.Core.Path.{ap, ◌∙◌}
use Rattle.inside.proofs.InsideLaws.{by_pair_lem, by_no_pair}
use Rattle.inside.specs.Inside.{field_answer}
use Rattle.inside.specs.Inside.{signed_reply, by_pair}
use Rattle.fields.specs.Sign.{signed_at}
use Rattle.inside.proofs.inner.ask_signed.Goals as goal

pub returns : goal.returns
unfolding signed_reply
returns c = c.say_signed.ensures ∙ ap (field_answer) c.read_signed.ensures ∙ by_pair_lem (λ a b. field_answer (signed_at c.args.packet.now a b)) _ c.in-Some.field c.in-Some.is
    ∙ ap (by_pair (λ a b. field_answer (signed_at c.args.packet.now a b))) c.pair_of.ensures.0

pub returns-in_default : goal.returns-in_default
unfolding signed_reply
returns-in_default c = c.unread.ensures ∙ by_no_pair (λ a b. field_answer (signed_at c.args.packet.now a b)) _ c.in_default.is
    ∙ ap (by_pair (λ a b. field_answer (signed_at c.args.packet.now a b))) c.pair_of.ensures.0
