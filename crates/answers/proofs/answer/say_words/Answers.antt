-- No numbers.
use Rattle.answers.specs.Answers.{words_answer}
use Rattle.answers.proofs.answer.say_words.Goals as goal

pub returns : goal.returns
unfolding words_answer
returns c = simp (c.says.ensures, c.one.ensures)
