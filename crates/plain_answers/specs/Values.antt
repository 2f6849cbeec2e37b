-- The values of each kind of answer, as i64.
use Rattle.std.specs.Prelude.{ℕ, ◌≡◌, refl, true, false, List, [], ◌∷◌, ◌++◌, ℤ, pos, negsuc}
use Rattle.std.specs.Float.{binary64}
use Rattle.std.specs.Float.Ieee.{to_bits, of_bits}
use Rattle.key_symbols.specs.declared.FiveNumbers.{FiveNumbers}
use Rattle.outcomes.specs.Outcome.{Outcome, refused, answer}
use Rattle.outcomes.specs.Values as values
use Rattle.verdicts.specs.Answer as import
use Rattle.identification.specs.Identification.{Identity}
use Rattle.readings.specs.Readings.{Reading}
use Rattle.engineering.specs.Engineering.{Engineered, value, double, text}
use Rattle.limit_state.specs.declared.state.LimitState.{LimitState}
use Rattle.telling.specs.Words.{word, flag_number}

-- 01: "returns the counts of rows and of good rows"
pub record Counts : Type 0 where
  pub rows : ℕ
  pub good : ℕ

unfoldable pub counts_of : import.Imported → Outcome Counts
counts_of (import.refused number place) = refused number place
counts_of (import.taken rows good) = answer (record { rows = rows; good = good })

unfoldable pub of_counts : Counts → List ℤ
of_counts c = word c.rows ∷ word c.good ∷ []

-- the pid row's number, its SPID and the five numbers
unfoldable pub of_identity : Identity → List ℤ
of_identity i =
    let n : FiveNumbers = i.numbers in
    word i.row ∷ word i.spid ∷ word n.apid ∷ word n.ptype ∷ word n.stype ∷ word n.pi1 ∷ word n.pi2 ∷ []

-- 0 and an integer; 1 and a part of the packet, its first byte and its length; or a kind of its own, bits and how many
-- they are. 02, P6: "a new kind, bits with their width"
unfoldable pub of_value : (bits : ℕ) → values.Value → List ℤ
of_value bits (values.number z) = pos 0 ∷ z ∷ []
of_value bits (values.part start bytes) = pos 1 ∷ word start ∷ word bytes ∷ []
of_value bits (values.bits pattern width) = pos bits ∷ word pattern ∷ word width ∷ []

-- bits are kind 2; and whether the reading is valid
unfoldable pub of_reading : Reading → List ℤ
of_reading r = of_value 2 r.value ++ flag_number r.valid ∷ []

-- or 2 and a text, the txp row's number and ALTXT's first byte in txp and its length; or 3 and a double's bits.
-- 02, P1: "its bits are what is promised". Bits that were read are kind 4
unfoldable pub of_engineered : Engineered → List ℤ
of_engineered (value v) = of_value 4 v
of_engineered (double x) = pos 3 ∷ word (to_bits binary64 x) ∷ []
of_engineered (text t) = pos 2 ∷ word t.row ∷ word t.start ∷ word t.bytes ∷ []

-- 01: "The state is: fresh or not, APID, sequence count, run, announced": the state after the packet
unfoldable pub of_state : LimitState → List ℤ
of_state s = flag_number s.fresh ∷ word s.apid ∷ word s.count ∷ word s.run ∷ word s.announced ∷ []

pub record Examples : Type 0 where
  -- a valid -1
  pub integer : of_reading (record { value = values.number (negsuc 0); valid = true }) ≡ pos 0 ∷ negsuc 0 ∷ pos 1 ∷ []
  -- a valid quiet NaN, of 32 bits, and the same as an engineering value
  pub single : of_reading (record { value = values.bits 0x7FC00000 32; valid = true }) ≡ pos 2 ∷ pos 0x7FC00000 ∷ pos 32 ∷ pos 1 ∷ []
  pub engineered : of_engineered (value (values.bits 0x7FC00000 32)) ≡ pos 4 ∷ pos 0x7FC00000 ∷ pos 32 ∷ []
  -- the text of txp row 3, 5 bytes from byte 40 of the table on
  pub altxt : of_engineered (text (record { row = 3; start = 40; bytes = 5 })) ≡ pos 2 ∷ pos 3 ∷ pos 40 ∷ pos 5 ∷ []
  -- -0.5, of bits 0xBFE0000000000000
  pub minus_half : of_engineered (double (of_bits binary64 0xBFE0000000000000)) ≡ pos 3 ∷ negsuc 0x401FFFFFFFFFFFFF ∷ []
  -- APID 10, count 0, a run of 3, soft
  pub state : of_state (record { fresh = false; apid = 10; count = 0; run = 3; announced = 1 }) ≡ pos 0 ∷ pos 10 ∷ pos 0 ∷ pos 3 ∷ pos 1 ∷ []

pub examples : Examples
unfolding word flag_number of_value of_reading of_engineered of_state to_bits of_bits
examples = record { integer = refl; single = refl; engineered = refl; altxt = refl; minus_half = refl; state = refl }
