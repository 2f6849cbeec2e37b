-- Each test in turn.
use borrow.Author.Tests.{not-true, not-false}
use mathlib.Core.Path.{◌≡◌, sym, ◌∙◌}
use mathlib.Core.Bool.{true}
use Rattle.key_symbols.specs.Keyed.{symbol_of}
use Rattle.key_symbols.specs.Bounded.{key_fits, packet_of}
use Rattle.database.proofs.FindLaws.{number_alone}
use Rattle.packet_rows.specs.Packets.{said_packet}
use Rattle.packet_rows.proofs.PacketLaws.{no_number, other_number, other_row, is_packet_lem, held_unfit, held_fit}
use Rattle.packet_rows.proofs.packet_at.Goals as goal

pub returns-then-row-eq0 : goal.returns-then-row-eq0
unfolding said_packet
returns-then-row-eq0 c = no_number _ _ _ _ _ c.if-row-eq0.true

pub returns-then-number-row : goal.returns-then-number-row
unfolding said_packet
returns-then-number-row c = other_number _ _ _ _ _ (λ e. c.if-number-row.true (c.number_of-number.ensures ∙ number_alone _ _ _ ∙ e))

pub returns-then-not-asked : goal.returns-then-not-asked
unfolding said_packet
returns-then-not-asked c = let unfit = sym c.packet_key-asked.ensures.0 ∙ not-true _ c.if-not-asked.true in
    other_row _ _ _ _ _ (λ e. c.if-row-eq0.false (sym e ∙ held_unfit _ _ _ _ _ c.numbers_at-numbers.ensures unfit))

pub returns-then-holder_of-row : goal.returns-then-holder_of-row
unfolding said_packet
returns-then-holder_of-row c =
    let fit : ((c.packet_key-asked.result.key ≡ symbol_of (packet_of c.numbers_at-numbers.result)) × (key_fits (packet_of c.numbers_at-numbers.result) ≡ true)) = let t = not-false _ c.if-not-asked.false in (c.packet_key-asked.ensures.1 t, sym c.packet_key-asked.ensures.0 ∙ t) in
    other_row _ _ _ _ _
    (λ e. c.if-holder_of-row.true (c.holder_of.ensures.0 ∙ held_fit _ _ _ _ _ c.numbers_at-numbers.ensures fit.1 fit.0 ∙ e))

pub returns : goal.returns
unfolding said_packet
returns c =
    let fit : ((c.packet_key-asked.result.key ≡ symbol_of (packet_of c.numbers_at-numbers.result)) × (key_fits (packet_of c.numbers_at-numbers.result) ≡ true)) = let t = not-false _ c.if-not-asked.false in (c.packet_key-asked.ensures.1 t, sym c.packet_key-asked.ensures.0 ∙ t) in
    is_packet_lem _ _ _ _ _ c.if-row-eq0.false (sym (number_alone _ _ _) ∙ sym c.number_of-number.ensures ∙ c.if-number-row.false)
    (sym (held_fit _ _ _ _ _ c.numbers_at-numbers.ensures fit.1 fit.0) ∙ sym c.holder_of.ensures.0 ∙ c.if-holder_of-row.false)
    c.numbers_at-numbers.ensures
