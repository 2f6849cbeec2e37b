-- The first word of a line, and which word of a list it is.
use Rattle.std.specs.Prelude.{ℕ, suc, ◌+◌, ◌≡◌, refl, cond, List, [], ◌∷◌, eqb, take, drop}
use Rattle.laws.specs.Text.{ascii, char}
use Rattle.lines.specs.Columns.{columns_of, columns_from}
use Rattle.name_bytes.specs.Names.{name_of, same_name, same_bytes}

-- how many bytes stand before the first of this kind, or all where there is none
unfoldable pub upto : ℕ → List ℕ → ℕ
upto b [] = 0
upto b (c ∷ cs) = cond (eqb c b) 0 (suc (upto b cs))

-- what stands before the first space, and what follows it
unfoldable pub word_of : List ℕ → List ℕ
word_of line = take (upto (char " ") line) line

unfoldable pub after_word : List ℕ → List ℕ
after_word line = drop (upto (char " ") line + 1) line

-- the place of a word among others, or their number
unfoldable pub word_place : List ℕ → List (List ℕ) → ℕ
word_place word [] = 0
word_place word (w ∷ ws) = cond (same_name (name_of w) (name_of word)) 0 (suc (word_place word ws))

-- the tables in 01's order, the packet, and the other words that set something; their number is none of them
unfoldable pub setting_of : List ℕ → ℕ
setting_of word = word_place word (columns_of (ascii "pid\tpic\tplf\tpcf\tcaf\tcap\ttxf\ttxp\tocf\tocp\tmcf\tpacket\tpacket+\tfill\tclear\tstate"))

abbrev pub question_count : ℕ
question_count = 14

-- the questions; their number is none of them
unfoldable pub question_of : List ℕ → ℕ
question_of word =
    word_place word (columns_of (ascii "import\trow\tidentify\textract\tengineer\tstep\tnumber\twidth\tunsigned\tsigned\tstring\tline\tsearch\tindex"))

pub record Examples : Type 0 where
  pub word : word_of (ascii "extract T1|0") ≡ ascii "extract"
  pub text : after_word (ascii "extract T1|0") ≡ ascii "T1|0"
  pub alone : after_word (ascii "import") ≡ []
  pub eighth : setting_of (ascii "txp") ≡ 7
  pub none_such : setting_of (ascii "txq") ≡ 16
  pub fourth : question_of (ascii "extract") ≡ 3
  pub last : question_of (ascii "index") ≡ 13
  pub no_question : question_of (ascii "indexes") ≡ question_count

pub examples : Examples
unfolding word_of after_word upto setting_of question_of word_place columns_of columns_from name_of same_name same_bytes
examples = record { word = refl; text = refl; alone = refl; eighth = refl; none_such = refl; fourth = refl; last = refl; no_question = refl }
