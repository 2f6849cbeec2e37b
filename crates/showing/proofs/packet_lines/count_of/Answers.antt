-- Case by case.
use Prim.Native.Nat.{ℕ}
use mathlib.Core.Path.{◌≡◌, refl, sym, ap, ◌∙◌}
use mathlib.Core.List.{List}
use Rattle.std.specs.Prelude.{Result, Err}
use Rattle.fields.specs.Field.{said_error, said_unsigned, unsigned_at}
use Rattle.fields.specs.declared.field.FieldError.{FieldError}
use Rattle.fields.specs.declared.field.FieldError.TheVariants.{Outside, NoWidth}
use Rattle.showing.specs.Count.{field_number, sequence_count_in}
use Rattle.showing.proofs.packet_lines.count_of.Goals as goal

by : (p : List ℕ) {r answer : Result ℕ FieldError} → said_unsigned r ≡ unsigned_at p 18 14 → r ≡ answer
    → field_number (said_unsigned answer) ≡ sequence_count_in p
unfolding sequence_count_in
by p is e = sym (ap (λ x. field_number (said_unsigned x)) e) ∙ ap field_number is

-- a field that has no number counts 0
no_number : (error : FieldError) → 0 ≡ field_number (said_unsigned (Err error))
unfolding field_number said_error said_unsigned
no_number Outside = refl
no_number NoWidth = refl

pub returns-in-Ok : goal.returns-in-Ok
unfolding field_number said_unsigned
returns-in-Ok c = by _ c.read_unsigned.ensures c.in-Ok.is

pub returns-in-Err : goal.returns-in-Err
returns-in-Err c = no_number _ ∙ by _ c.read_unsigned.ensures c.in-Err.is
