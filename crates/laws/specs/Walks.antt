-- Languages that are read as a walk over characters, and how far a text is the beginning of a word.
use Rattle.std.specs.Prelude.{ℕ, suc, ◌<◌, ◌≤◌, ◌≡◌, refl, List, [], ◌∷◌, ◌++◌, Bool, true, false, cond, ◌||◌, eqb, length, take}
use Rattle.laws.specs.Text.{ascii, char}

-- ---- of a language alone

-- a text is the beginning of a word
pub record Begins (isWord : List ℕ → Bool) (text : List ℕ) : Type 0 where
  pub rest : List ℕ
  pub word : isWord (text ++ rest) ≡ true

-- 02, P2: "the first character at which no allowed number can go on": the longest beginning of the text that is the
-- beginning of a word has n characters
pub record Longest (isWord : List ℕ → Bool) (text : List ℕ) (n : ℕ) : Type 0 where
  pub within : n ≤ length text
  pub begins : Begins isWord (take n text)
  pub ends : n < length text → Begins isWord (take (suc n) text) → ⊥

-- ---- of a walk

-- where it starts, where a character leads, where a word may end, and where nothing leads on
pub record Walk (S : Type 0) : Type 0 where
  pub start : S
  pub after : S → ℕ → S
  pub ends : S → Bool
  pub stuck : S → Bool

module _ {S : Type 0} (walk : Walk S) where
  -- where a text leads
  unfoldable pub through : S → List ℕ → S
  through s [] = s
  through s (c ∷ cs) = through (walk.after s c) cs

  -- the words of its language
  unfoldable pub accepts : List ℕ → Bool
  accepts text = walk.ends (through walk.start text)

  -- how many characters lead on
  unfoldable pub lead_on : S → List ℕ → ℕ
  lead_on s [] = 0
  lead_on s (c ∷ cs) = cond (walk.stuck (walk.after s c)) 0 (suc (lead_on (walk.after s c) cs))

  -- 02, P2: "the position, from 1, of the first character at which no allowed number can go on, or one past the end"
  unfoldable pub wrong_at : List ℕ → ℕ
  wrong_at text = suc (lead_on walk.start text)

-- a language of two words, a and ab: 0 at the start, 1 after a, 2 after ab, and 3 where nothing leads on
abbrev example_after : ℕ → ℕ → ℕ
example_after s c = cond (eqb s 0) (cond (eqb c (char "a")) 1 3) (cond (eqb s 1) (cond (eqb c (char "b")) 2 3) 3)

abbrev example_walk : Walk ℕ
example_walk = record { start = 0; after = example_after; ends = λ s. eqb s 1 || eqb s 2; stuck = λ s. eqb s 3 }

pub record Examples : Type 0 where
  pub word : accepts example_walk (ascii "ab") ≡ true
  pub none : accepts example_walk (ascii "aa") ≡ false
  pub second : wrong_at example_walk (ascii "aa") ≡ 2
  pub past_the_end : wrong_at example_walk (ascii "ab") ≡ 3

pub examples : Examples
unfolding accepts through lead_on wrong_at
examples = record { word = refl; none = refl; second = refl; past_the_end = refl }
