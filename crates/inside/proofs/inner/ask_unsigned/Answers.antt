-- By the two numbers.
use mathlib.Core.Path.{ap, ◌∙◌}
use Rattle.inside.proofs.InsideLaws.{by_pair_lem, by_no_pair}
use Rattle.inside.specs.Inside.{field_answer}
use Rattle.inside.specs.Inside.{unsigned_reply, by_pair}
use Rattle.fields.specs.Field.{unsigned_at}
use Rattle.inside.proofs.inner.ask_unsigned.Goals as goal

pub returns : goal.returns
unfolding unsigned_reply
returns c = c.say_unsigned.ensures ∙ ap (field_answer) c.read_unsigned.ensures
    ∙ by_pair_lem (λ a b. field_answer (unsigned_at c.args.packet.now a b)) _ c.in-Some.field c.in-Some.is ∙ ap (by_pair (λ a b. field_answer (unsigned_at c.args.packet.now a b))) c.pair_of.ensures.0

pub returns-in_default : goal.returns-in_default
unfolding unsigned_reply
returns-in_default c = c.unread.ensures ∙ by_no_pair (λ a b. field_answer (unsigned_at c.args.packet.now a b)) _ c.in_default.is
    ∙ ap (by_pair (λ a b. field_answer (unsigned_at c.args.packet.now a b))) c.pair_of.ensures.0
