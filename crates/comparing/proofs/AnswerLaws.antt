-- Laws of answers, and of a line compared with one.
use Rattle.std.proofs.Common.{◌≡◌, ℕ, true, false, not, List, ◌++◌, pos, arith, le-ltb}
use borrow.Author.Tests.{not-true, not-false}
use Rattle.laws.specs.Text.{ascii}
use Rattle.name_bytes.specs.Names.{same_bytes}
use Rattle.answers.specs.declared.answer.Answer.{Answer}
use Rattle.comparing.specs.declared.compare.Verdict.TheVariants.{Unread, Same, Differs}
use Rattle.answers.specs.Answers.{saying, one, integer_answer}
use Rattle.spoken.specs.Spoken.{spoken}
use Rattle.comparing.specs.Compared.{verdict_of}

-- a number that isn't negative has no minus
pub natural_answer : (n : ℕ) → integer_answer (pos n) ≡ saying (ascii "#") false (one n)
unfolding integer_answer
natural_answer n = rw (le-ltb n 0 (omega arith))

module _ (a : Answer) (txp cells positions line : List ℕ) where
  pub verdict_unread : not a.readable ≡ true → Unread ≡ verdict_of a txp cells positions line
  unfolding verdict_of
  verdict_unread e = rw (not-true a.readable e)

  pub verdict_same : not a.readable ≡ false
      → same_bytes (ascii "= " ++ spoken a txp cells positions) line ≡ true → Same ≡ verdict_of a txp cells positions line
  unfolding verdict_of same_bytes
  verdict_same e t = rw (not-false a.readable e, t)

  pub verdict_differs : not a.readable ≡ false
      → same_bytes (ascii "= " ++ spoken a txp cells positions) line ≡ false → Differs ≡ verdict_of a txp cells positions line
  unfolding verdict_of same_bytes
  verdict_differs e t = rw (not-false a.readable e, t)
