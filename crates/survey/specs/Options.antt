-- Which question is asked, by the program's last argument.
use Rattle.std.specs.Prelude.{◌≡◌, ℕ, cond, List, refl, Option, Some, None}
use Rattle.laws.specs.Text.{ascii}
use Rattle.name_bytes.specs.Names.{name_of, same_bytes, same_name}
use Rattle.surveying.specs.declared.asking.Question.{Question}
use Rattle.surveying.specs.declared.asking.Question.TheVariants.{Identify, Extract, Engineer}

unfoldable pub question_chosen : List ℕ → Option Question
question_chosen option =
    cond (same_name (name_of option) (name_of (ascii "identify"))) (Some Identify)
    (cond (same_name (name_of option) (name_of (ascii "extract"))) (Some Extract)
    (cond (same_name (name_of option) (name_of (ascii "engineer"))) (Some Engineer) None))

pub record Examples : Type 0 where
  pub identify : question_chosen (ascii "identify") ≡ Some Identify
  pub engineer : question_chosen (ascii "engineer") ≡ Some Engineer
  pub other : question_chosen (ascii "import") ≡ None

pub examples : Examples
unfolding question_chosen name_of same_name same_bytes
examples = record { identify = refl; engineer = refl; other = refl }
