-- `string_fields::string_at` meets its contract.
use native.Mathlib.Omega.{arith}
use Rattle.string_fields.specs.Text.{said_string}
use Rattle.string_fields.proofs.TextLaws.{string_none, string_outside, string_off_byte, string_inside}
use Rattle.string_fields.proofs.string_at.Goals as goal

pub returns-then-bytes-eq0 : goal.returns-then-bytes-eq0
unfolding said_string
returns-then-bytes-eq0 c = string_none _ _ _ c.if-bytes-eq0.true

pub returns-then-p-first : goal.returns-then-p-first
unfolding said_string
returns-then-p-first c = string_outside _ _ _ (omega arith) (omega arith)

pub returns-then-p-first-2 : goal.returns-then-p-first-2
unfolding said_string
returns-then-p-first-2 c = string_outside _ _ _ (omega arith) (omega arith)

pub returns-then-lead-eq0 : goal.returns-then-lead-eq0
unfolding said_string
returns-then-lead-eq0 c = string_inside _ _ _ (omega arith) (omega arith) (omega arith)

pub returns-then-p-first-3 : goal.returns-then-p-first-3
unfolding said_string
returns-then-p-first-3 c = string_outside _ _ _ (omega arith) (omega arith)

pub returns : goal.returns
unfolding said_string
returns c = string_off_byte _ _ _ (omega arith) (omega arith) (omega arith)
