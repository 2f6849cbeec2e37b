-- An identification field by what is read in the bytes from it on.
use mathlib.Core.Path.{◌≡◌, ap, ◌∙◌}
use mathlib.Core.List.{List}
use Prim.Native.Nat.{ℕ, ◌*◌}
use lib.ListN.{drop}
use Rattle.fields.specs.Field.{unsigned_at, said_unsigned}
use Rattle.std.specs.Prelude.{Result}
use Rattle.fields.specs.declared.field.FieldError.{FieldError}
use Rattle.identifiers.specs.Identifiers.{read_identifier}
use Rattle.identifiers.proofs.FieldLaws.{unsigned_drop}
use Rattle.outcomes.proofs.OutcomeLaws.{told}

module _ (p : List ℕ) (byte width : ℕ) where
  pub read_from : {q : List ℕ} {x u : Result ℕ FieldError} → q ≡ drop byte p → said_unsigned x ≡ unsigned_at q 0 width → x ≡ u
      → read_identifier byte (said_unsigned u) ≡ read_identifier byte (unsigned_at p (byte * 8) width)
  read_from d h e =
      ap (read_identifier byte) (told said_unsigned h e ∙ ap (λ (q : List ℕ). unsigned_at q 0 width) d ∙ unsigned_drop p byte width)
