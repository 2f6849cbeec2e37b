-- Below 2 ^ 63 the number itself; from there on the number of the same bits.
use Rattle.telling.proofs.WordLaws.{low_word, high_fits, high_word}
use Rattle.telling.proofs.words.as_word.Goals as goal

pub returns-then-n-lt9223372036854775808 : goal.returns-then-n-lt9223372036854775808
returns-then-n-lt9223372036854775808 c = low_word _ c.if-n-lt9223372036854775808.true

pub overflow_sub-result : goal.overflow_sub-result
overflow_sub-result c = high_fits _ c.if-n-lt9223372036854775808.false

pub returns : goal.returns
returns c = high_word _ c.if-n-lt9223372036854775808.false
