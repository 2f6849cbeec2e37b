-- The questions of what can be seen only inside, by their text, and their answers.
use Rattle.std.specs.Prelude as rust
use Rattle.std.specs.Prelude.{ℕ, ℤ, ◌≤◌, ◌≡◌, refl, true, false, cond, List, eqb, nat_abs, length, Result, Ok, Err}
use Rattle.std.proofs.Math.Option.{Option, some, none}
use Rattle.laws.specs.Text.{ascii}
use Rattle.laws.specs.Said.{Said, value, refused, free}
use Rattle.numbers.specs.Number.{number_of, answer_of, meaning, spelt, after, digit_on, digit_of}
use Rattle.numbers.specs.declared.NumberError.{NumberError}
use Rattle.numbers.specs.declared.NumberError.TheVariants.{NotNumber, Beyond}
use Rattle.lines.specs.Columns.{columns_of, columns_from, column_at}
use Rattle.widths.specs.Width.{width_of, integer_width, bits_within}
use Rattle.fields.specs.Field.{unsigned_at}
use Rattle.fields.specs.Sign.{signed_at}
use Rattle.string_fields.specs.Text.{string_at}
use Rattle.curves.specs.Line.{line_at}
use Rattle.scripts.specs.Numerals.{natural_in, natural_of, at_most, integer_text}
use Rattle.answers.specs.declared.answer.Answer.{Answer}
use Rattle.answers.specs.Answers.{saying, one, two, words_answer, integer_answer, unreadable}
use Rattle.inside.specs.declared.inner.Pair.{Pair}

unfoldable pub number_answer : Result ℤ NumberError → Answer
number_answer (Ok v) = integer_answer v
number_answer (Err NotNumber) = words_answer (ascii "no number")
number_answer (Err Beyond) = words_answer (ascii "beyond")

unfoldable pub width_answer : Option ℕ → Answer
width_answer (some bits) = saying (ascii "# bits") false (one bits)
width_answer none = words_answer (ascii "none")

unfoldable pub field_answer : Said → Answer
field_answer (value z) = integer_answer z
field_answer (refused number) = words_answer (ascii "outside")
field_answer free = words_answer (ascii "no width")

unfoldable pub string_answer : (bytes : ℕ) → Said → Answer
string_answer bytes (value z) = saying (ascii "string from #, # bytes") false (two (nat_abs z) bytes)
string_answer bytes (refused number) = cond (eqb number 28) (words_answer (ascii "outside")) (words_answer (ascii "off a byte"))
string_answer bytes free = words_answer (ascii "no bytes")

unfoldable pub line_answer : Said → Answer
line_answer (value z) = integer_answer z
line_answer (refused number) = words_answer (ascii "out of range")
line_answer free = words_answer (ascii "no line")

unfoldable pub pair_of : rust.Option ℕ → rust.Option ℕ → rust.Option Pair
pair_of (rust.Some first) (rust.Some second) = rust.Some (record { first = first; second = second })
pair_of (rust.Some first) rust.None = rust.None
pair_of rust.None second = rust.None

-- the two numbers of a text, each at most so much
unfoldable pub pair_in : (first second : ℕ) → List ℕ → rust.Option Pair
pair_in first second text =
    cond (eqb (length (columns_of text)) 2)
    (pair_of (at_most first (natural_in (column_at (columns_of text) 0))) (at_most second (natural_in (column_at (columns_of text) 1)))) rust.None

-- each is no more than so much
abbrev pub PairWithin : (first second : ℕ) → rust.Option Pair → Type 0
PairWithin first second (rust.Some p) = (p.first ≤ first) × (p.second ≤ second)
PairWithin first second rust.None = Unit {0}

unfoldable pub by_pair : (ℕ → ℕ → Answer) → rust.Option Pair → Answer
by_pair answer (rust.Some p) = answer p.first p.second
by_pair answer rust.None = unreadable

unfoldable pub width_reply : List ℕ → Answer
width_reply text = by_pair (λ ptc pfc. width_answer (width_of ptc pfc)) (pair_in 4294967295 4294967295 text)

unfoldable pub unsigned_reply : (packet text : List ℕ) → Answer
unsigned_reply packet text = by_pair (λ bit width. field_answer (unsigned_at packet bit width)) (pair_in 18446744073709551615 4294967295 text)

unfoldable pub signed_reply : (packet text : List ℕ) → Answer
signed_reply packet text = by_pair (λ bit width. field_answer (signed_at packet bit width)) (pair_in 18446744073709551615 4294967295 text)

unfoldable pub string_reply : (packet text : List ℕ) → Answer
string_reply packet text = by_pair (λ bit bytes. string_answer bytes (string_at packet bit bytes)) (pair_in 18446744073709551615 18446744073709551615 text)

-- two points and the X at which the line through them is asked for
unfoldable pub line_asked : rust.Option ℤ → rust.Option ℤ → rust.Option ℤ → rust.Option ℤ → rust.Option ℤ → Answer
line_asked (rust.Some x0) (rust.Some y0) (rust.Some x1) (rust.Some y1) (rust.Some x) =
    line_answer (line_at (record { x = x0; y = y0 }) (record { x = x1; y = y1 }) x)
line_asked rust.None y0 x1 y1 x = unreadable
line_asked (rust.Some x0) rust.None x1 y1 x = unreadable
line_asked (rust.Some x0) (rust.Some y0) rust.None y1 x = unreadable
line_asked (rust.Some x0) (rust.Some y0) (rust.Some x1) rust.None x = unreadable
line_asked (rust.Some x0) (rust.Some y0) (rust.Some x1) (rust.Some y1) rust.None = unreadable

unfoldable pub line_reply : List ℕ → Answer
line_reply text =
    cond (eqb (length (columns_of text)) 5)
    (line_asked (integer_text (column_at (columns_of text) 0)) (integer_text (column_at (columns_of text) 1)) (integer_text (column_at (columns_of text) 2))
    (integer_text (column_at (columns_of text) 3)) (integer_text (column_at (columns_of text) 4)))
    unreadable

pub record Examples : Type 0 where
  pub pair : pair_in 99 9 (ascii "0x10\t9") ≡ rust.Some (record { first = 16; second = 9 })
  pub no_pair_lem : pair_in 99 8 (ascii "0x10\t9") ≡ rust.None
  pub width : width_reply (ascii "3\t12") ≡ saying (ascii "# bits") false (one 16)
  pub number : number_answer (answer_of (number_of (ascii "08"))) ≡ words_answer (ascii "no number")

pub examples : Examples
unfolding
    pair_in pair_of by_pair width_reply width_answer width_of integer_width bits_within number_answer natural_in natural_of at_most
    columns_of columns_from number_of answer_of meaning spelt after digit_on digit_of
examples = record { pair = refl; no_pair_lem = refl; width = refl; number = refl }
