-- Laws of the first word of a line and of a word's place in a list.
use mathlib.Core.Path.{◌≡◌, ap, ◌∙◌}
use mathlib.Core.Bool.{true, false}
use mathlib.Core.List.{List, []}
use Prim.Native.Nat.{ℕ, suc, ◌+◌, ◌<◌, ◌≤◌}
use native.Mathlib.Omega.{arith}
use lib.ListN.{length, get_or, drop, drop_of_length-le}
use borrow.Author.Tests.{eq-eqb, ne_eqb}
use Rattle.laws.proofs.Lists.{split}
use native.Mathlib.Nat.{sub-zero}
use Rattle.lines.specs.Columns.{part_of}
use Rattle.lines.proofs.ColumnLaws.{part_rest}
use Rattle.name_bytes.specs.Names.{name_of, same_name}
use Rattle.scripts.specs.Words.{upto, word_of, after_word, word_place}

module _ (b : ℕ) (s : List ℕ) (i : ℕ) where
  pub upto_here : i < length s → get_or s i 0 ≡ b → upto b (drop i s) ≡ 0
  unfolding upto
  upto_here h e = rw (split s i 0 h, eq-eqb (get_or s i 0) b e)

  pub upto_more : i < length s → (get_or s i 0 ≡ b → ⊥) → upto b (drop i s) ≡ suc (upto b (drop (i + 1) s))
  unfolding upto
  upto_more h n = rw (split s i 0 h, ne_eqb (get_or s i 0) b n)

  pub upto_none : length s ≤ i → upto b (drop i s) ≡ 0
  unfolding upto
  upto_none h = rw (drop_of_length-le s h)

module _ (word : List ℕ) (ws : List (List ℕ)) (k : ℕ) where
  pub place_here : k < length ws → same_name (name_of (get_or ws k [])) (name_of word) ≡ true → word_place word (drop k ws) ≡ 0
  unfolding word_place
  place_here h e = rw (split ws k [] h, e)

  pub place_more : k < length ws → same_name (name_of (get_or ws k [])) (name_of word) ≡ false
      → word_place word (drop k ws) ≡ suc (word_place word (drop (k + 1) ws))
  unfolding word_place
  place_more h e = rw (split ws k [] h, e)

  pub place_none : length ws ≤ k → word_place word (drop k ws) ≡ 0
  unfolding word_place
  place_none h = rw (drop_of_length-le ws h)

pub word_is : (line : List ℕ) (e : ℕ) → e ≡ upto 32 line → part_of line 0 e ≡ word_of line
unfolding word_of
word_is line e h = rw (h, sub-zero)

pub text_is : (line : List ℕ) (e : ℕ) → e ≡ upto 32 line → part_of line (e + 1) (length line) ≡ after_word line
unfolding after_word
text_is line e h = part_rest line (e + 1) (length line) (omega arith) ∙ ap (λ (n : ℕ). drop (n + 1) line) h

pub text_none : (line : List ℕ) (e : ℕ) → e ≡ upto 32 line → length line ≤ e → after_word line ≡ []
unfolding after_word
text_none line e h l = drop_of_length-le line {i = upto 32 line + 1} (omega arith)
