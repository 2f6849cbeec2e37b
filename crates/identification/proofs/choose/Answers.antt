-- A key that fits is sought, and the row found is read.
use borrow.Author.Tests.{not-true, not-false}
use mathlib.Core.Path.{◌≡◌, sym, ◌∙◌}
use mathlib.Core.Bool.{true}
use Rattle.key_symbols.specs.Keyed.{symbol_of}
use Rattle.key_symbols.specs.Bounded.{key_fits, packet_of}
use Rattle.outcomes.specs.Refusals.{refused_by, refusal_number, refusal_place}
use Rattle.database.proofs.FindLaws.{number_alone, holder_none, holder_some}
use Rattle.identification.specs.Identification.{said_identified}
use Rattle.identification.proofs.PidLaws.{holder_unfit, choice_none, choice_some}
use Rattle.identification.proofs.choose.Goals as goal

pub returns-then-not-asked : goal.returns-then-not-asked
unfolding said_identified refused_by refusal_number refusal_place
returns-then-not-asked c = choice_none _ _ (holder_unfit _ _ (sym c.packet_key-asked.ensures.0 ∙ not-true _ c.if-not-asked.true))

pub returns-then-at-eq0 : goal.returns-then-at-eq0
unfolding said_identified refused_by refusal_number refusal_place
returns-then-at-eq0 c =
    let fit : ((c.packet_key-asked.result.key ≡ symbol_of (packet_of c.args.numbers)) × (key_fits (packet_of c.args.numbers) ≡ true)) = let t = not-false _ c.if-not-asked.false in (c.packet_key-asked.ensures.1 t, sym c.packet_key-asked.ensures.0 ∙ t) in
    choice_none _ _ (holder_none _ _ _ _ _ _ fit.0 fit.1 _ c.holder_of-at.ensures.0 c.if-at-eq0.true)

pub returns : goal.returns
unfolding said_identified
returns c =
    let fit : ((c.packet_key-asked.result.key ≡ symbol_of (packet_of c.args.numbers)) × (key_fits (packet_of c.args.numbers) ≡ true)) = let t = not-false _ c.if-not-asked.false in (c.packet_key-asked.ensures.1 t, sym c.packet_key-asked.ensures.0 ∙ t) in
    choice_some _ _ (holder_some _ _ _ _ _ _ fit.0 fit.1 _ c.holder_of-at.ensures.0 c.if-at-eq0.false)
    (c.number_of-row.ensures ∙ number_alone _ _ _) c.spid_at-spid.ensures
