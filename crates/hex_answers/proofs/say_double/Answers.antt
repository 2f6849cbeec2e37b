-- Sixteen digits after the word.
use mathlib.Core.Path.{◌≡◌, ap, ◌∙◌}
use mathlib.Core.List.{List, [], ◌++◌, append-nil}
use Prim.Native.Nat.{ℕ}
use lib.ListN.{length}
use Rattle.laws.specs.Text.{ascii}
use Rattle.answers.specs.Answers.{words_answer}
use Rattle.hex_answers.specs.Hexadecimal.{hexadecimal, double_answer}
use Rattle.hex_answers.proofs.say_double.Goals as goal

long : (xs : List ℕ) (n : ℕ) → xs ≡ hexadecimal 16 n → 23 ≡ length (ascii "double " ++ (xs ++ []))
unfolding hexadecimal
long xs n e = rw e

pub slice_bounds-say_words-end : goal.slice_bounds-say_words-end
slice_bounds-say_words-end c = long _ _ c.spell_hex.ensures

pub returns : goal.returns
unfolding double_answer
returns c = c.say_words.ensures ∙ ap (λ (l : List ℕ). words_answer (ascii "double " ++ l)) (append-nil c.spell_hex.new.out ∙ c.spell_hex.ensures)
