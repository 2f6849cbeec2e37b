-- The answers to imports and to the questions of packets, by what the library says.
use Rattle.std.specs.Prelude.{ℕ, ◌/◌, ◌%◌, ◌≡◌, refl, Bool, true, false, cond, [], ◌∷◌, eqb, pos, negsuc, nat_abs}
use Rattle.std.specs.Int.Signed.{lt_z}
use Rattle.std.specs.Float.{binary64}
use Rattle.std.specs.Float.Ieee.{to_bits, of_bits}
use Rattle.laws.specs.Text.{ascii}
use Rattle.outcomes.specs.Outcome.{Outcome, refused, answer}
use Rattle.outcomes.specs.Values.{Value, number, part, bits}
use Rattle.verdicts.specs.Answer as import
use Rattle.identification.specs.Identification.{Identity}
use Rattle.readings.specs.Readings.{Reading}
use Rattle.engineering.specs.Engineering.{Engineered, value, double, text}
use Rattle.limit_state.specs.declared.state.LimitState.{LimitState}
use Rattle.answers.specs.declared.answer.Answer.{Answer}
use Rattle.hex_answers.specs.Hexadecimal.{hex_digit, hexadecimal, double_answer, bits_answer, validity_words}
use Rattle.answers.specs.Answers.{composed, saying, refusing, words_answer, integer_answer, one, two}

-- the counts of rows and of good rows, and each row's cell with its position
unfoldable pub imported_answer : import.Imported → Answer
imported_answer (import.refused n place) = refusing n place
imported_answer (import.taken rows good) = composed (ascii "# rows, # good:") false (two rows good) 0 0 rows

-- the cell of a table's only row, with its position where that isn't 0
unfoldable pub cell_answer : (cell position : ℕ) → Answer
cell_answer cell position =
    cond (eqb position 0)
    (cond (eqb cell 0) (words_answer (ascii "good")) (saying (ascii "#:#") false (two (cell / 256) (cell % 256))))
    (saying (ascii "#:#@#") false (cell / 256 ∷ cell % 256 ∷ position ∷ 0 ∷ 0 ∷ 0 ∷ 0 ∷ []))

unfoldable pub only_answer : import.Imported → (cell position : ℕ) → Answer
only_answer (import.refused n place) cell position = refusing n place
only_answer (import.taken rows good) cell position = cell_answer cell position

-- the answer to a question of a packet: its refusal, or what is said of what it answers
unfoldable pub reply_of : {A : Type 0} → (A → Answer) → Outcome A → Answer
reply_of says (refused n place) = refusing n place
reply_of says (answer a) = says a

unfoldable pub identity_answer : Identity → Answer
identity_answer id =
    saying (ascii "row #, SPID #, APID #, type #, subtype #, PI1 #, PI2 #") false
    (id.row ∷ id.spid ∷ id.numbers.apid ∷ id.numbers.ptype ∷ id.numbers.stype ∷ id.numbers.pi1 ∷ id.numbers.pi2 ∷ [])

-- a raw value and whether it is valid
unfoldable pub raw_answer : Value → (valid : Bool) → Answer
raw_answer (number z) valid = saying (cond valid (ascii "#, valid") (ascii "#, invalid")) (lt_z z (pos 0)) (one (nat_abs z))
raw_answer (part start bytes) valid =
    saying (cond valid (ascii "string from #, # bytes, valid") (ascii "string from #, # bytes, invalid")) false (two start bytes)
raw_answer (bits pattern width) valid = bits_answer (validity_words valid) pattern width

unfoldable pub reading_answer : Reading → Answer
reading_answer r = raw_answer r.value r.valid

unfoldable pub value_answer : Value → Answer
value_answer (number z) = integer_answer z
value_answer (part start bytes) = saying (ascii "string from #, # bytes") false (two start bytes)
value_answer (bits pattern width) = bits_answer [] pattern width

-- a double is told by its bits; a text is followed by its bytes in txp
unfoldable pub engineered_answer : Engineered → Answer
engineered_answer (value v) = value_answer v
engineered_answer (double x) = double_answer (to_bits binary64 x)
engineered_answer (text t) =
    composed (ascii "text of row # from #, # bytes: ") false (t.row ∷ t.start ∷ t.bytes ∷ 0 ∷ 0 ∷ 0 ∷ 0 ∷ []) t.start t.bytes 0

unfoldable pub state_answer : LimitState → Answer
state_answer s = saying (ascii "APID #, count #, run #, announced #") false (s.apid ∷ s.count ∷ s.run ∷ s.announced ∷ 0 ∷ 0 ∷ 0 ∷ [])

pub record Examples : Type 0 where
  -- 01: "cells 2567, 2817, 2817"
  pub cell : cell_answer 2567 0 ≡ saying (ascii "#:#") false (two 10 7)
  pub position : cell_answer 3330 2 ≡ saying (ascii "#:#@#") false (13 ∷ 2 ∷ 2 ∷ 0 ∷ 0 ∷ 0 ∷ 0 ∷ [])
  pub reading : reply_of reading_answer (answer (record { value = number (negsuc 7); valid = true })) ≡ saying (ascii "#, valid") true (one 8)
  pub half : reply_of engineered_answer (answer (double (of_bits binary64 0x3FE0000000000000))) ≡ words_answer (ascii "double 3FE0000000000000")
  pub single : reply_of engineered_answer (answer (value (bits 0x7FC00000 32))) ≡ saying (ascii "# bits 000000007FC00000") false (one 32)
  pub refusal : reply_of engineered_answer (refused 30 0) ≡ refusing 30 0

pub examples : Examples
unfolding cell_answer reply_of reading_answer raw_answer engineered_answer value_answer double_answer bits_answer hexadecimal hex_digit to_bits of_bits
examples = record { cell = refl; position = refl; reading = refl; half = refl; single = refl; refusal = refl }
