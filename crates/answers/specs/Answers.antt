-- Answers as they are held: a template and numbers.
use Rattle.std.specs.Prelude.{ℕ, ◌≡◌, refl, Bool, true, false, List, [], ◌∷◌, ℤ, pos, negsuc, nat_abs, length, take, replicate}
use Rattle.std.specs.Int.Signed.{lt_z}
use Rattle.laws.specs.Text.{ascii}
use Rattle.name_bytes.specs.Names.{padded}
use Rattle.answers.specs.declared.answer.Answer.{Answer}

-- `#` of a template stands for the next of the numbers; so many bytes of txp from a place on and so many cells follow.
-- A template has at most 64 bytes: a longer one is cut
unfoldable pub composed : (template : List ℕ) → (negative : Bool) → (values : List ℕ) → (from bytes cells : ℕ) → Answer
composed template negative values from bytes cells =
    record {
      readable = true;
      template = padded 64 (take 64 template);
      length = length (take 64 template);
      negative = negative;
      values = values;
      from = from;
      bytes = bytes;
      cells = cells;
    }

-- words and numbers alone
unfoldable pub saying : (template : List ℕ) → (negative : Bool) → (values : List ℕ) → Answer
saying template negative values = composed template negative values 0 0 0

abbrev pub one : ℕ → List ℕ
one n = n ∷ 0 ∷ 0 ∷ 0 ∷ 0 ∷ 0 ∷ 0 ∷ []

abbrev pub two : ℕ → ℕ → List ℕ
two n m = n ∷ m ∷ 0 ∷ 0 ∷ 0 ∷ 0 ∷ 0 ∷ []

unfoldable pub words_answer : List ℕ → Answer
words_answer text = saying text false (one 0)

unfoldable pub integer_answer : ℤ → Answer
integer_answer z = saying (ascii "#") (lt_z z (pos 0)) (one (nat_abs z))

-- 01: "returns number and place"
unfoldable pub refusing : (number place : ℕ) → Answer
refusing number place = saying (ascii "refused # at #") false (two number place)

-- the question can't be read
unfoldable pub unreadable : Answer
unreadable =
    record {
      readable = false;
      template = replicate 64 0;
      length = 0;
      negative = false;
      values = one 0;
      from = 0;
      bytes = 0;
      cells = 0;
    }

pub record Examples : Type 0 where
  pub minus_two : integer_answer (negsuc 1) ≡ saying (ascii "#") true (one 2)
  pub refusal : take (refusing 28 13).length (refusing 28 13).template ≡ ascii "refused # at #"
  pub cut : (saying (replicate 65 35) false (one 0)).length ≡ 64

pub examples : Examples
unfolding refusing saying composed integer_answer
examples = record { minus_two = refl; refusal = refl; cut = refl }
