-- Test by test: the header's fields lie in a packet of seven bytes or more.
use mathlib.Core.Path.{ap, sym, ◌∙◌}
use mathlib.Core.Logic.{inl, inr}
use Prim.Native.Nat.{◌+◌}
use native.Mathlib.Omega.{arith}
use lib.Dec.{eqb}
use borrow.Author.Tests.{eq-eqb, ne_eqb}
use Rattle.headers.proofs.read_header.Goals.{then-flagged+else-p-lt9, else-flagged}
use Rattle.outcomes.specs.Refusals.{said, refused_by, refusal_number, refusal_place}
use Rattle.headers.specs.Header.{length_field, flagged, apid, sequence_count}
use Rattle.headers.proofs.HeaderLaws.{refused_short, refused_long, refused_version, refused_field, refused_data, heading_is}
use Rattle.headers.proofs.read_header.Goals as goal

pub returns-then-p-lt7 : goal.returns-then-p-lt7
unfolding said refused_by refusal_number refusal_place
returns-then-p-lt7 c = refused_short _ c.if-p-lt7.true

pub returns-then-p-gt8192 : goal.returns-then-p-gt8192
unfolding said refused_by refusal_number refusal_place
returns-then-p-gt8192 c = refused_long _ c.if-p-lt7.false c.if-p-gt8192.true

pub returns-then-bits-ne0 : goal.returns-then-bits-ne0
unfolding said refused_by refusal_number refusal_place
returns-then-bits-ne0 c = refused_version _ c.if-p-lt7.false c.if-p-gt8192.false (λ z. c.if-bits-ne0.true (c.bits.ensures.0 ∙ z))

pub overflow_add-bits : goal.overflow_add-bits
overflow_add-bits c = let h = c.bits-2.ensures.1 in omega arith

pub returns-then-bits-p : goal.returns-then-bits-p
unfolding said refused_by refusal_number refusal_place length_field
returns-then-bits-p c = refused_field _ c.if-p-lt7.false c.if-p-gt8192.false
    (sym c.bits.ensures.0 ∙ c.if-bits-ne0.false) (λ z. c.if-bits-p.true (ap (λ x. x + 7) c.bits-2.ensures.0 ∙ z))

pub returns-then-p-lt9 : goal.returns-then-p-lt9
unfolding said refused_by refusal_number refusal_place length_field flagged
returns-then-p-lt9 c = refused_data _ c.if-p-lt7.false
    c.if-p-gt8192.false
    (sym c.bits.ensures.0 ∙ c.if-bits-ne0.false)
    (ap (λ x. x + 7) (sym c.bits-2.ensures.0) ∙ c.if-bits-p.false)
    (eq-eqb _ _ (sym c.bits-flagged.ensures.0 ∙ c.if-flagged.true)) c.if-p-lt9.true

pub overflow_cast-apid : goal.overflow_cast-apid
overflow_cast-apid c = let h = c.bits-apid.ensures.1 in omega arith

pub overflow_cast-count : goal.overflow_cast-count
overflow_cast-count c = let h = c.bits-count.ensures.1 in omega arith

pub returns : goal.returns
unfolding said length_field flagged apid sequence_count
returns c = heading_is _ c.if-p-lt7.false
    c.if-p-gt8192.false
    (sym c.bits.ensures.0 ∙ c.if-bits-ne0.false)
    (ap (λ x. x + 7) (sym c.bits-2.ensures.0) ∙ c.if-bits-p.false) _ _ _
    (ap (λ x. eqb x 1) c.bits-flagged.ensures.0) c.bits-apid.ensures.0 c.bits-count.ensures.0
    (elim c.if-flagged.branch [ then-flagged+else-p-lt9 w ↦ inr (eq-eqb _ _ w.if-flagged.true, w.if-p-lt9.false) | else-flagged w ↦ inl (ne_eqb _ _ w.if-flagged.false) ])
