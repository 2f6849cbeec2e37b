-- The tests that led to each return say which case of `digit_of` holds.
use Rattle.numbers.proofs.Digits.{inside, under, over}
use native.Mathlib.Omega.{arith}
use Rattle.numbers.specs.Number.{digit_of}
use Rattle.escapes.proofs.digit.Goals as goal

pub returns-in-48-to-57 : goal.returns-in-48-to-57
unfolding digit_of
returns-in-48-to-57 c = let x = c.args.c in
    rw (inside 48 57 x (omega arith) (omega arith))

pub returns-in-65-to-70 : goal.returns-in-65-to-70
unfolding digit_of
returns-in-65-to-70 c = let x = c.args.c in
    rw (over 48 57 x (omega arith), inside 65 70 x (omega arith) (omega arith))

pub returns-in-97-to-102 : goal.returns-in-97-to-102
unfolding digit_of
returns-in-97-to-102 c = let x = c.args.c in
    rw (over 48 57 x (omega arith), over 65 70 x (omega arith), inside 97 102 x (omega arith) (omega arith))

pub returns-in_default : goal.returns-in_default
unfolding digit_of
returns-in_default c = let x = c.args.c in
    rw (under 48 57 x (omega arith), under 65 70 x (omega arith), under 97 102 x (omega arith))

pub returns-in_default-2 : goal.returns-in_default-2
unfolding digit_of
returns-in_default-2 c = let x = c.args.c in
    rw (over 48 57 x (omega arith), under 65 70 x (omega arith), under 97 102 x (omega arith))

pub returns-in_default-3 : goal.returns-in_default-3
unfolding digit_of
returns-in_default-3 c = let x = c.args.c in
    rw (over 48 57 x (omega arith), over 65 70 x (omega arith), under 97 102 x (omega arith))

pub returns-in_default-4 : goal.returns-in_default-4
unfolding digit_of
returns-in_default-4 c = let x = c.args.c in
    rw (over 48 57 x (omega arith), over 65 70 x (omega arith), over 97 102 x (omega arith))
