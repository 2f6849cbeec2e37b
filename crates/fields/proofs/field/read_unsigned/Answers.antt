-- `fields::field::read_unsigned` meets its contract:
-- the tests that led to each answer say whether the field's end lies in the packet.
use mathlib.Core.Path.{ap, ◌∙◌}
use Prim.Native.Nat.{ℕ}
use native.Mathlib.Omega.{arith}
use lib.IntN.{pos}
use Rattle.fields.specs.Bits.{number_at}
use Rattle.laws.specs.Said.{value}
use Rattle.fields.specs.Field.{said_error, said_unsigned, unsigned_at}
use Rattle.fields.proofs.FieldLaws.{width_none, width_over, field_free, field_outside, field_value}
use Rattle.fields.proofs.field.read_unsigned.Goals as goal

pub returns-then-width-eq0 : goal.returns-then-width-eq0
unfolding said_error said_unsigned unsigned_at
returns-then-width-eq0 c = field_free _ _ _ _ (width_none _ c.if-width-eq0.true)

pub returns-then-width-gt64 : goal.returns-then-width-gt64
unfolding said_error said_unsigned unsigned_at
returns-then-width-gt64 c = field_free _ _ _ _ (width_over _ c.if-width-gt64.true)

pub returns-then-p-first : goal.returns-then-p-first
unfolding said_error said_unsigned unsigned_at
returns-then-p-first c = field_outside _ _ _ _ (omega arith) (omega arith) (omega arith)

pub returns-then-p-first-2 : goal.returns-then-p-first-2
unfolding said_error said_unsigned unsigned_at
returns-then-p-first-2 c = field_outside _ _ _ _ (omega arith) (omega arith) (omega arith)

pub returns : goal.returns
unfolding said_unsigned unsigned_at
returns c = let a = c.args in
    ap (λ (v : ℕ). value (pos v)) (c.gather.ensures ∙ ap (λ (x : ℕ). number_at a.p.now x a.width) (omega arith))
    ∙ field_value pos a.p.now a.at.0 a.width (omega arith) (omega arith) (omega arith)
