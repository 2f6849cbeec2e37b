-- Values as questions answer them.
use Rattle.std.specs.Prelude.{ℕ, ◌≡◌, refl, ℤ}
use Rattle.outcomes.specs.declared.Value as code
use Rattle.outcomes.specs.declared.Value.TheVariants.{Number, Part, Bits}

-- an integer, a string, or a real number. 01: "A string is answered as the part of the packet it is";
-- 02, P6: "a new kind, bits with their width"
pub data Value : Type 0 where
  number : ℤ → Value
  part : (start bytes : ℕ) → Value
  bits : (pattern width : ℕ) → Value

-- the values of each case
unfoldable pub value_of : code.Value → Value
value_of (Number v) = number v
value_of (Part from bytes) = part from.0 bytes
value_of (Bits pattern width) = bits pattern width

pub record Examples : Type 0 where
  pub string : value_of (Part (record { 0 = 12 }) 2) ≡ part 12 2
  -- 0.5 as an IEEE 754 single
  pub half : value_of (Bits 0x3F000000 32) ≡ bits 0x3F000000 32

pub examples : Examples
unfolding value_of
examples = record { string = refl; half = refl }
