-- An answer as bytes, and what it is to find bytes in a line.
use Rattle.std.specs.Prelude.{ℕ, zero, suc, ◌+◌, ◌/◌, ◌%◌, ◌≡◌, refl, Bool, true, false, cond, List, [], ◌∷◌, ◌++◌, eqb, ltb, length, get_or, take}
use Rattle.io.specs.Digits.{last_digits}
use Rattle.laws.specs.Text.{ascii, char}
use Rattle.string_fields.specs.Text.{part_at}
use Rattle.answers.specs.declared.answer.Answer.{Answer}
use Rattle.answers.specs.Answers.{composed, saying, refusing}

-- how many decimal digits a number has, of at most so many more
unfoldable pub places : (most : ℕ) → ℕ → ℕ
places zero n = 1
places (suc most) n = cond (ltb n 10) 1 (suc (places most (n / 10)))

-- a number of 64 bits has at most 20
unfoldable pub decimal : ℕ → List ℕ
decimal n = last_digits 10 (places 20 n) n

-- a template with its numbers from the k-th on
unfoldable pub spelled : ℕ → List ℕ → List ℕ → List ℕ
spelled k [] values = []
spelled k (b ∷ template) values =
    cond (eqb b (char "#")) (decimal (get_or values k 0) ++ spelled (suc k) template values) (b ∷ spelled k template values)

-- a cell: `good`, or its reason and column
unfoldable pub cell_text : ℕ → List ℕ
cell_text cell = cond (eqb cell 0) (ascii " good") (char " " ∷ decimal (cell / 256) ++ char ":" ∷ decimal (cell % 256))

-- 02, P2: "otherwise 0": a position is said where it isn't 0
unfoldable pub position_text : ℕ → List ℕ
position_text position = cond (eqb position 0) [] (char "@" ∷ decimal position)

-- each cell with its position, as far as there are both
unfoldable pub cells_text : (cells positions : List ℕ) → List ℕ
cells_text [] positions = []
cells_text (c ∷ cells) [] = []
cells_text (c ∷ cells) (p ∷ positions) = cell_text c ++ position_text p ++ cells_text cells positions

unfoldable pub sign_text : Bool → List ℕ
sign_text false = []
sign_text true = char "-" ∷ []

unfoldable pub spoken : Answer → (txp cells positions : List ℕ) → List ℕ
spoken a txp cells positions =
    sign_text a.negative ++ spelled 0 (take a.length a.template) a.values
    ++ part_at txp a.from a.bytes ++ cells_text (take a.cells cells) positions

-- the next place of a line where this byte stands at a place, and past its end where another does
unfoldable pub matched : List ℕ → ℕ → ℕ → ℕ
matched line at b = cond (ltb at (length line)) (cond (eqb (get_or line at 0) b) (at + 1) (length line + 1)) (length line + 1)

unfoldable pub matched_all : List ℕ → ℕ → List ℕ → ℕ
matched_all line at [] = at
matched_all line at (b ∷ bs) = matched_all line (matched line at b) bs

pub record Examples : Type 0 where
  pub number : decimal 4660 ≡ ascii "4660"
  pub nought : decimal 0 ≡ ascii "0"
  pub refusal : spoken (refusing 28 13) [] [] [] ≡ ascii "refused 28 at 13"
  pub negative : spoken (saying (ascii "#, valid") true (2 ∷ [])) [] [] [] ≡ ascii "-2, valid"
  pub text : spoken (composed (ascii "# bytes: ") false (3 ∷ []) 1 3 0) (ascii "XLOWX") [] [] ≡ ascii "3 bytes: LOW"
  pub cells : spoken (composed (ascii "# rows:") false (2 ∷ []) 0 0 2) [] (0 ∷ 3330 ∷ 65535 ∷ []) (0 ∷ 2 ∷ 65535 ∷ []) ≡ ascii "2 rows: good 13:2@2"

pub examples : Examples
unfolding decimal places spelled cell_text position_text cells_text sign_text spoken refusing saying composed part_at
examples = record { number = refl; nought = refl; refusal = refl; negative = refl; text = refl; cells = refl }
