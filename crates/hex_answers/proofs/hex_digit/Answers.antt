-- Below 10, or from 10 on.
use native.Mathlib.Omega.{arith}
use Rattle.hex_answers.proofs.HexLaws.{digit_low, digit_high}
use Rattle.hex_answers.proofs.hex_digit.Goals as goal

pub returns-then-d-lt10 : goal.returns-then-d-lt10
returns-then-d-lt10 c = digit_low _ (omega arith)

pub returns-else-d-lt10 : goal.returns-else-d-lt10
returns-else-d-lt10 c = digit_high _ (omega arith)
